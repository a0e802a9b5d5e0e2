-- The line `collating-symbol`: a law for each answer.
use Rattle.std.specs.Prelude.{Err, None, Ok, Option, Result, Some, ℕ}
use mathlib.Core.Path.{◌≡◌, refl, sym, ap, ◌∙◌, subst}
use mathlib.Core.Logic.{inr}
use mathlib.Core.Bool.{Bool, true, false, not, ◌&&◌, ◌||◌, false≢true}
use mathlib.Core.List.{List, [], ◌∷◌}
use Prim.Native.Nat.{ℕ, ◌*◌, ◌/◌, ◌^◌, ◌≤◌, ◌<◌}
use native.Mathlib.Omega.{arith}
use lib.ListN.{length}
use lib.Dec.{eqb, leb}
use borrow.Author.Tests.{eqb-true, leb-true}
use Rattle.base_lists.proofs.Bools.{and_left}
use Rattle.base_lists.proofs.Lists.{length-zero}
use Rattle.rules.specs.Text.{every, ◌unless◌, lower, lowest}
use Rattle.rules.specs.Names.{is_visible, name_refusal, names_refusal}
use Rattle.rules.specs.Lines.{in_plain}
use Rattle.rules.specs.Tokens.{broken, name, quote, Token, token_at, the_name, single, tokens_refusal}
use Rattle.rules.specs.State.{named}
use Rattle.rules.proofs.TextLaws.{unless-none, lower-none, lowest-none}
use Rattle.base_units.specs.declared.Refusal.{Refusal}
use Rattle.base_units.specs.Numbers.{number_of}
use Rattle.text_lines.specs.declared.Signs.{Signs}
use Rattle.text_lines.specs.declared.Spot.{Spot}
use Rattle.text_tokens.specs.Left.{is_inside}
use Rattle.rules.proofs.RefusalLaws.{bounded-lowest, bounded-unless}
use Rattle.text_tokens.proofs.RefusalLaws.{lower-none-right}
use Rattle.text_operands.specs.Operand.{operands_left}
use Rattle.text_operands.proofs.ListLaws.{single_more}
use Rattle.text_names.specs.Named.{name_left}
use Rattle.work_subjects.specs.Keys.{Key, item, key_at}
use Rattle.work_store.specs.Store.{Decl, Sound, Roomy}
use Rattle.locale_symbols.specs.Symbols.{is_new_in, Gives, operands_after, symbol_refusal, Unfit, NameFirst, HeadIs, NewIs, SymbolAt, SymbolNot, SymbolChecked}
use Rattle.locale_symbols.proofs.UnfitLaws.{unfit-three, unfit-other}
use Rattle.locale_symbols.proofs.NewLaws.{new-shape, key-named}

-- ## The refusal

-- one name is a name
pub single-kind : (os : List Token) → single name os ≡ true → eqb (token_at os 0).kind name ≡ true
single-kind [] h = h
single-kind (t ∷ []) h = h
single-kind (t ∷ u ∷ ts) h = absurd (false≢true h)

-- operands of another form
refusal-unfit : (ds : List Decl) (os : List Token) → Unfit os (single name os) → symbol_refusal ds os ≡ 3
unfolding symbol_refusal lowest
refusal-unfit ds os u =
    let b = is_new_in ds (the_name (token_at os 0)) in
    unfit-three os (single name os) (lowest (5 unless b ∷ [])) (bounded-lowest 3 7 (5 unless b ∷ []) (bounded-unless 3 7 5 b refl, tt)) u

-- one name, by whether it is new
refusal-single : (ds : List Decl) (os : List Token) (b : Bool) → single name os ≡ true → is_new_in ds (the_name (token_at os 0)) ≡ b
    → symbol_refusal ds os ≡ lower (tokens_refusal os) (5 unless b)
unfolding symbol_refusal lowest lower
refusal-single ds os true h e = rw (h, e)
refusal-single ds os false h e = rw (h, e)

not_three : (g : Signs) (src : List ℕ) (p : Spot) (w : List ℕ) → Unfit (operands_after g src p) (single name (operands_after g src p)) → SymbolNot g src p w 3
not_three g src p w u = record { refusal = record { is = λ n ds o. refusal-unfit ds (operands_after g src p) u }; some = λ e. omega arith }

-- ## A name that is not refused has a byte

pub name-some : (t : Token) (ts : List Token) (n : List ℕ) → t.names ≡ n ∷ [] → tokens_refusal (t ∷ ts) ≡ 0 → 1 ≤ length n
unfolding tokens_refusal names_refusal name_refusal
name-some t ts n e h =
    let x = not (eqb t.kind broken || (eqb t.kind quote && eqb (length t.names) 0)) in
    let a = (lowest-none (3 unless x) (names_refusal t.names ∷ tokens_refusal ts ∷ []) h).1 in
    let b : names_refusal (n ∷ []) ≡ 0 = rw e at (lowest-none (names_refusal t.names) (tokens_refusal ts ∷ []) a).0 in
    let c = (lowest-none (name_refusal n) [] b).0 in
    let d = (lower-none (3 unless (leb 1 (length n) && every is_visible n)) (7 unless leb (length n) 32) c).0 in
    leb-true 1 (length n) (and_left (leb 1 (length n)) (every is_visible n) (unless-none 3 (leb 1 (length n) && every is_visible n) (omega arith) d))

-- ## The answers

module _ (g : Signs) (src : List ℕ) (p : Spot) (w : List ℕ) {h : Option (Spot × Spot)} (v : HeadIs g src p (operands_after g src p) h) where
  pub symbol-other : h ≡ None → SymbolNot g src p w 3
  symbol-other e =
      let os = operands_after g src p in
      not_three g src p w (unfit-other os (eqb (token_at os 0).kind name) (single name os) (single-kind os) (subst (HeadIs g src p os) e v))

  module _ {i e : Spot} (k : h ≡ Some (i, e)) where
    pub named-first : NameFirst g src p (operands_after g src p) i e
    named-first = subst (HeadIs g src p (operands_after g src p)) k v

    -- what reading on after the name requires
    pub head-to : e.at ≤ length src
    head-to = named-first.to

    pub head_plain : e.mode ≡ in_plain
    head_plain = named-first.after

    -- and reading the name
    pub head-within : i.at ≤ length src
    head-within = omega (arith, named-first.long, named-first.to)

    pub head-inside : is_inside i.mode ≡ true
    head-inside = rw named-first.mode

    -- its mark is a number
    pub head-fits : Sound (key_at g src) (length src) w → 2 * i.at < 2 ^ 64
    head-fits s = omega (arith, head-within, s.holds.roomy.few)

    -- the first operand's name
    pub head-text : the_name (token_at (operands_after g src p) 0) ≡ name_left g src i
    head-text = rw (named-first.first, named-first.names)

    module _ {n : Bool} (l : n ≡ eqb (length (operands_left g src true e)) 0) where
      pub symbol-more : n ≡ false → SymbolNot g src p w 3
      symbol-more z =
          not_three g src p w (inr (ap (λ (ts : List Token). single name ts) named-first.first
          ∙ single_more name named-first.token (operands_left g src true e) (sym l ∙ z)))

      module _ (z : n ≡ true) {r : ℕ} (f : r ≡ tokens_refusal (operands_after g src p)) {b : Bool}
          (u : NewIs (key_at g src) (length src) w (name_left g src i) b) where
        alone : single name (operands_after g src p) ≡ true
        alone =
            let ts = operands_left g src true e in
            ap (λ (us : List Token). single name us)
            (named-first.first ∙ ap (λ (us : List Token). named-first.token ∷ us) (length-zero ts (eqb-true (length ts) 0 (sym l ∙ z))))
            ∙ rw named-first.kind

        told : (x : ℕ) → lower r (5 unless b) ≡ x → Gives (key_at g src) (length src) w (λ (ds : List Decl). symbol_refusal ds (operands_after g src p)) x
        told x y =
            record {
              is = λ m ds o.
                  refusal-single ds (operands_after g src p) b alone (rw head-text (sym (u.is m ds o)))
                  ∙ ap (λ (q : ℕ). lower q (5 unless b)) (sym f) ∙ y;
            }

        -- the lowest of what the operands and the name are refused for
        pub symbol-fault : {q m : ℕ} → q ≡ (5 unless b) → m ≡ lower r q → (m ≡ 0 → ⊥) → SymbolNot g src p w m
        symbol-fault {q} {m} c d a = record { refusal = told m (ap (λ (x : ℕ). lower r x) (sym c) ∙ sym d); some = a }

        -- neither is refused
        pub symbol-at : {q m : ℕ} → q ≡ (5 unless b) → m ≡ lower r q → m ≡ 0 → Sound (key_at g src) (length src) w → SymbolAt g src p w (2 * i.at)
        symbol-at {q} {m} d k x s =
            let all = lower-none r (5 unless b) (ap (λ (y : ℕ). lower r y) (sym d) ∙ sym k ∙ x) in
            let a = all.0 in
            let c = unless-none 5 b (omega arith) all.1 in
            let y = new-shape s.ds (name_left g src i) (sym (u.is s.n s.ds s.holds) ∙ c) in
            let o = name-some named-first.token (operands_left g src true e) (name_left g src i) named-first.names (rw (← named-first.first, ← f) a) in
            record {
              refusal = told 0 (rw c (lower-none-right r ∙ a));
              mark = record {
                even = omega arith;
                behind = omega (arith, named-first.behind);
                within = omega (arith, head-within);
                key = key-named g src i (head-inside) y ∙ ap (λ (t : List ℕ). item (named t)) (sym head-text);
                room = record { after = e; end = named-first.end; long = omega (arith, named-first.long, o); to = named-first.to };
              };
            }

-- ## The declaration

module _ (g : Signs) (src : List ℕ) (p : Spot) (w : List ℕ) {s : Result ℕ Refusal} (v : SymbolChecked g src p w s) where
  pub symbol-refused : {r : Refusal} → s ≡ Err r → SymbolNot g src p w (number_of r)
  symbol-refused e = subst (SymbolChecked g src p w) e v

  module _ {x : ℕ} (e : s ≡ Ok x) where
    pub symbol-mark : SymbolAt g src p w x
    symbol-mark = subst (SymbolChecked g src p w) e v

    pub symbol-within : x / 2 ≤ length src
    symbol-within = symbol-mark.mark.within

pub sound-roomy : {key : ℕ → Key} {len : ℕ} {w : List ℕ} → Sound key len w → Roomy len w
sound-roomy s = s.holds.roomy
