-- The line `collating-element`: a law for each answer.
use Rattle.std.specs.Prelude.{Err, None, Ok, Option, Result, Some, ℕ}
use mathlib.Core.Path.{◌≡◌, refl, sym, ap, ◌∙◌, subst}
use mathlib.Core.Logic.{inl, inr}
use mathlib.Core.Bool.{true, not, ◌&&◌}
use mathlib.Core.List.{List, [], ◌∷◌, map}
use Prim.Native.Nat.{ℕ, ◌+◌, ◌*◌, ◌/◌, ◌^◌, ◌≤◌, ◌<◌}
use native.Mathlib.Omega.{arith}
use lib.ListN.{length, length-map}
use lib.Dec.{eqb, leb}
use borrow.Author.Tests.{eqb-true, eq-eqb, leb-true}
use Rattle.base_lists.proofs.Bools.{by, clash, and_left, and_right, and_intro}
use Rattle.rules.specs.Text.{within, every, is, ◌unless◌, lower, lowest}
use Rattle.rules.specs.Names.{code_of, is_char_name}
use Rattle.rules.specs.Lines.{quoted}
use Rattle.rules.specs.Tokens.{name, quote, Token, token_at, the_name, tokens_refusal}
use Rattle.rules.specs.State.{named}
use Rattle.rules.specs.Declarations.{element_formed}
use Rattle.rules.proofs.TextLaws.{lower-none, lowest-unless}
use Rattle.base_units.specs.declared.Refusal.{Refusal}
use Rattle.base_units.specs.Numbers.{number_of}
use Rattle.text_lines.specs.declared.Signs.{Signs}
use Rattle.text_lines.specs.declared.Spot.{Spot}
use Rattle.text_lines.specs.Stream.{marks_left}
use Rattle.text_tokens.specs.Left.{names_in}
use Rattle.rules.proofs.RefusalLaws.{Bounded, bounded-lowest, bounded-unless}
use Rattle.text_tokens.proofs.RefusalLaws.{refusal-later}
use Rattle.text_operands.specs.Operand.{operands_left}
use Rattle.text_names.specs.Named.{name_left}
use Rattle.work_subjects.specs.Keys.{item, chars, key_at}
use Rattle.work_store.specs.Store.{Decl, known_in, Sound}
use Rattle.locale_symbols.specs.Symbols.{is_new_in, operands_after, Unfit, Gives, NameFirst, HeadIs}
use Rattle.locale_symbols.proofs.UnfitLaws.{unfit-three, unfit-other}
use Rattle.locale_symbols.proofs.NewLaws.{new-shape, key-named}
use Rattle.locale_symbols.proofs.SymbolLaws.{name-some, head-within, head-inside}
use Rattle.locale_elements.specs.Element.{element_fault, element_refusal, from_formed, FromQuotes, FromIs, FaultIs, ElementAt, ElementNot, ElementChecked}
use Rattle.locale_elements.proofs.FaultLaws.{key-chars}

-- ## The refusal

refusal-parts : (ds : List Decl) (os : List Token)
    → element_refusal ds os ≡ lower (tokens_refusal os) (lower (3 unless element_formed os) (element_fault ds (the_name (token_at os 0)) (token_at os 2).names))
unfolding element_refusal element_fault lowest
refusal-parts ds os = refl

bounded-fault : (ds : List Decl) (n : List ℕ) (ns : List (List ℕ)) → Bounded 3 7 (element_fault ds n ns)
unfolding element_fault
bounded-fault ds n ns =
    let a = is_new_in ds n && not (every is_char_name ns && known_in (chars (map code_of ns)) ds) in
    let b = every is_char_name ns in
    let c = within 2 4 (length (map code_of ns)) in
    bounded-lowest 3 7 (5 unless a ∷ 6 unless b ∷ 7 unless c ∷ []) (bounded-unless 3 7 5 a refl, (bounded-unless 3 7 6 b refl, (bounded-unless 3 7 7 c refl, tt)))

-- operands of another form
refusal-unfit : (ds : List Decl) (os : List Token) → Unfit os (element_formed os) → element_refusal ds os ≡ 3
refusal-unfit ds os u =
    refusal-parts ds os
    ∙ unfit-three os (element_formed os) (element_fault ds (the_name (token_at os 0)) (token_at os 2).names) (bounded-fault ds (the_name (token_at os 0)) (token_at os 2).names) u

not_three : (g : Signs) (src : List ℕ) (p : Spot) (w : List ℕ) → Unfit (operands_after g src p) (element_formed (operands_after g src p)) → ElementNot g src p w 3
not_three g src p w u = record { refusal = record { is = λ n ds o. refusal-unfit ds (operands_after g src p) u }; some = λ e. omega arith }

-- operands of that form
refusal-formed : (ds : List Decl) (os : List Token) {n : List ℕ} {ns : List (List ℕ)} → element_formed os ≡ true → the_name (token_at os 0) ≡ n
    → (token_at os 2).names ≡ ns → element_refusal ds os ≡ lower (tokens_refusal os) (element_fault ds n ns)
unfolding lower
refusal-formed ds os h e f = refusal-parts ds os ∙ rw (h, e, f)

-- ## The form

formed-name : (os : List Token) → element_formed os ≡ true → eqb (token_at os 0).kind name ≡ true
unfolding element_formed
formed-name os h =
    let a = eqb (length os) 3 in
    let b = eqb (token_at os 0).kind name in
    let c = is (token_at os 1).text "from" in
    let d = eqb (token_at os 2).kind quote in
    and_right a b (and_left (a && b) c (and_left (a && b && c) d h))

formed-rest : (t : Token) (ts : List Token) → element_formed (t ∷ ts) ≡ true → from_formed ts ≡ true
unfolding element_formed from_formed
formed-rest t ts h =
    let a = eqb (length (t ∷ ts)) 3 in
    let b = eqb t.kind name in
    let c = is (token_at ts 0).text "from" in
    let d = eqb (token_at ts 1).kind quote in
    let i : (a && b && c) ≡ true = and_left (a && b && c) d h in
    let j : (a && b) ≡ true = and_left (a && b) c i in
    let n = eqb-true (length (t ∷ ts)) 3 (and_left a b j) in
    and_intro (and_intro (eq-eqb (length ts) 2 (omega arith)) (and_right (a && b) c i)) (and_right (a && b && c) d h)

formed-whole : (t u r : Token) → t.kind ≡ name → is u.text "from" ≡ true → r.kind ≡ quote → element_formed (t ∷ u ∷ r ∷ []) ≡ true
unfolding element_formed
formed-whole t u r e f h = rw (e, f, h)

-- ## A line that is not refused

-- what is not refused is a new name, and names of characters, two at least
fault-new : (ds : List Decl) (n : List ℕ) (ns : List (List ℕ)) → element_fault ds n ns ≡ 0 → (is_new_in ds n ≡ true) × (every is_char_name ns ≡ true) × (2 ≤ length ns)
unfolding element_fault
fault-new ds n ns h =
    let a = is_new_in ds n in
    let x = not (every is_char_name ns && known_in (chars (map code_of ns)) ds) in
    let rest = 6 unless every is_char_name ns ∷ 7 unless within 2 4 (length (map code_of ns)) ∷ [] in
    let u = lowest-unless 5 (a && x) rest (omega arith) h in
    let m = length (map code_of ns) in
    let d = lowest-unless 6 (every is_char_name ns) (7 unless within 2 4 m ∷ []) (omega arith) u.1 in
    let f = leb-true 2 m (and_left (leb 2 m) (leb m 4) (lowest-unless 7 (within 2 4 m) [] (omega arith) d.1).0) in
    let l = length-map ns code_of in
    (and_left a x u.0, d.0, omega (arith, f, l))

-- ## The answers

module _ (g : Signs) (src : List ℕ) (p : Spot) (w : List ℕ) {h : Option (Spot × Spot)} (v : HeadIs g src p (operands_after g src p) h) where
  pub element-other : h ≡ None → ElementNot g src p w 3
  element-other e =
      let os = operands_after g src p in
      not_three g src p w (unfit-other os (eqb (token_at os 0).kind name) (element_formed os) (formed-name os) (subst (HeadIs g src p os) e v))

  module _ {i e : Spot} (k : h ≡ Some (i, e)) where
    named-first : NameFirst g src p (operands_after g src p) i e
    named-first = subst (HeadIs g src p (operands_after g src p)) k v

    module _ {t : Option (Spot × ℕ)} (u : FromIs g src e t) where
      pub element-unformed : t ≡ None → ElementNot g src p w 3
      element-unformed d = not_three g src p w (unfit (subst (FromIs g src e) d u))
        where
          unfit : Unfit (operands_left g src true e) (from_formed (operands_left g src true e)) → Unfit (operands_after g src p) (element_formed (operands_after g src p))
          unfit (inl z) = inl (rw named-first.first (refusal-later named-first.token (operands_left g src true e) z))
          unfit (inr z) =
              inr (rw named-first.first (by (element_formed (named-first.token ∷ operands_left g src true e))
              (λ y. clash (formed-rest named-first.token (operands_left g src true e) y) z) (λ y. y)))

      module _ {s : Spot} {n : ℕ} (d : t ≡ Some (s, n)) where
        after-name : FromQuotes g src e s n
        after-name = subst (FromIs g src e) d u

        -- what reading the quotes requires
        pub tail-to : s.at ≤ length src
        tail-to = after-name.to

        pub tail-mode : s.mode ≡ quoted
        tail-mode = after-name.mode

        pub tail-many : length (names_in (marks_left g src s)) ≡ n
        tail-many = after-name.many

        -- their mark is a number
        pub tail-half : Sound (key_at g src) (length src) w → 2 * s.at < 2 ^ 64
        tail-half o = omega (arith, tail-to, o.holds.roomy.few)

        pub tail-fits : Sound (key_at g src) (length src) w → 2 * s.at + 1 < 2 ^ 64
        tail-fits o = omega (arith, tail-to, o.holds.roomy.few)

        whole : operands_after g src p ≡ named-first.token ∷ after-name.said ∷ after-name.token ∷ []
        whole = named-first.first ∙ ap (λ (ts : List Token). named-first.token ∷ ts) after-name.whole

        formed : element_formed (operands_after g src p) ≡ true
        formed = rw whole (formed-whole named-first.token after-name.said after-name.token named-first.kind after-name.from after-name.kind)

        text : the_name (token_at (operands_after g src p) 0) ≡ name_left g src i
        text = rw (whole, named-first.names)

        names : (token_at (operands_after g src p) 2).names ≡ names_in (marks_left g src s)
        names = rw whole after-name.names

        module _ {f r x : ℕ} (y : FaultIs g src w i s f) (z : r ≡ tokens_refusal (operands_after g src p)) (j : x ≡ lower r f) where
          told : Gives (key_at g src) (length src) w (λ (ds : List Decl). element_refusal ds (operands_after g src p)) x
          told =
              record {
                is = λ m ds o.
                    refusal-formed ds (operands_after g src p) formed text names
                    ∙ rw (← z, y.is m ds o) (sym j);
              }

          pub element-refused : (x ≡ 0 → ⊥) → ElementNot g src p w x
          element-refused a = record { refusal = told; some = a }

          pub element-at : x ≡ 0 → Sound (key_at g src) (length src) w → ElementAt g src p w (2 * i.at) (2 * s.at + 1)
          element-at a o =
              let b = lower-none r f (sym j ∙ a) in
              let c = fault-new o.ds (name_left g src i) (names_in (marks_left g src s)) (y.is o.n o.ds o.holds ∙ b.1) in
              let l = name-some named-first.token (operands_left g src true e) (name_left g src i) named-first.names (rw (← named-first.first, ← z) b.0) in
              record {
                refusal = rw (← a) told;
                mark = record {
                  even = omega arith;
                  behind = omega (arith, named-first.behind);
                  within = omega (arith, head-within g src p w v k);
                  key = key-named g src i (head-inside g src p w v k) (new-shape o.ds (name_left g src i) c.0)
                      ∙ ap (λ (m : List ℕ). item (named m)) (sym text);
                  room = record { after = e; end = named-first.end; long = omega (arith, named-first.long, l); to = named-first.to };
                };
                quotes = record {
                  odd = omega arith;
                  later = omega (arith, named-first.long, l, after-name.far);
                  within = omega (arith, tail-to);
                  key = key-chars g src s tail-mode c.1 ∙ ap (λ (ns : List (List ℕ)). chars (map code_of ns)) (sym names);
                  room = record {
                    after = after-name.after;
                    end = named-first.end ∙ after-name.end;
                    long = let q = after-name.full (omega (arith, c.2, after-name.many)) in omega (arith, q);
                    to = after-name.ends;
                  };
                };
              }

-- ## The declaration

module _ (g : Signs) (src : List ℕ) (p : Spot) (w : List ℕ) {s : Result (ℕ × ℕ) Refusal} (v : ElementChecked g src p w s) where
  pub element-not : {r : Refusal} → s ≡ Err r → ElementNot g src p w (number_of r)
  element-not e = subst (ElementChecked g src p w) e v

  module _ {x y : ℕ} (e : s ≡ Ok (x, y)) where
    pub element-marks : ElementAt g src p w x y
    element-marks = subst (ElementChecked g src p w) e v

    pub name-within : x / 2 ≤ length src
    name-within = element-marks.mark.within

    pub quotes-within : y / 2 ≤ length src
    quotes-within = element-marks.quotes.within

    pub quotes-later : x / 16 + 1 ≤ y / 16
    quotes-later = element-marks.quotes.later
