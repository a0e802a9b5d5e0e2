-- What reorder-after names: a law for each answer.
use Rattle.std.specs.Option.{unwrap_or}
use Rattle.base_units.proofs.NumberLaws.{number_of-some}
use Rattle.base_units.specs.Numbers.{number_of, number_or_none}
use Rattle.base_units.specs.declared.Refusal.TheVariants.{Unknown}
use Rattle.base_units.specs.declared.Refusal.{Refusal}
use Rattle.std.specs.Prelude.{Err, None, Ok, Option, Result, Some, ℕ}
use mathlib.Core.Path.{◌≡◌, refl, sym, ap, ◌∙◌, subst}
use mathlib.Core.Logic.{inr}
use mathlib.Core.Bool.{Bool, true, false, not, ◌||◌, or-true}
use mathlib.Core.List.{List, [], ◌∷◌}
use Prim.Native.Nat.{ℕ, ◌+◌, ◌*◌, ◌/◌, ◌≤◌}
use native.Mathlib.Omega.{arith}
use lib.ListN.{length}
use lib.Dec.{eqb, leb}
use borrow.Author.Tests.{eqb-true, eqb-false, eq-eqb, ne_eqb, le-leb, lt-leb}
use Rattle.base_lists.proofs.Bools.{by}
use Rattle.base_lists.proofs.Lists.{length-zero}
use Rattle.rules.specs.Text.{one_of, ◌unless◌, lower, lowest}
use Rattle.rules.specs.Tokens.{name, Token, token_at, single, tokens_refusal}
use Rattle.rules.specs.Meaning.{Rule}
use Rattle.rules.specs.State.{after_order, in_block, Declaration, Subject, OrderLine}
use Rattle.rules.specs.OrderLines.{subject_of, rank_of}
use Rattle.rules.proofs.TextLaws.{lower-none}
use Rattle.text_lines.specs.declared.Signs.{Signs}
use Rattle.text_lines.specs.declared.Spot.{Spot}
use Rattle.text_tokens.specs.Left.{is_inside}
use Rattle.rules.proofs.RefusalLaws.{bounded-lowest, bounded-unless}
use Rattle.text_tokens.proofs.RefusalLaws.{lower-none-right}
use Rattle.text_operands.specs.Operand.{operands_left}
use Rattle.text_operands.proofs.ListLaws.{single_more}
use Rattle.text_names.specs.Named.{name_left}
use Rattle.work_rows.specs.Cells.{cell}
use Rattle.work_subjects.specs.Keys.{Key, key_at, subject_left}
use Rattle.work_subjects.proofs.SpotLaws.{key_at-inside}
use Rattle.work_store.specs.Store.{first, is_found, Finds}
use Rattle.work_store.proofs.ListLaws.{found_within}
use Rattle.work_order.specs.declared.Order.{Order}
use Rattle.work_order.specs.Links.{place_number}
use Rattle.locale_sheet.specs.Known.{subject_at, mark_of, Known}
use Rattle.locale_sheet.proofs.MarkLaws.{mark-name, marked-subject, mark-row}
use Rattle.locale_sheet.proofs.RankLaws.{is_ordered, rank-none}
use Rattle.locale_symbols.specs.Symbols.{operands_after, Unfit, HeadIs}
use Rattle.locale_symbols.proofs.UnfitLaws.{unfit-three, unfit-other}
use Rattle.locale_symbols.proofs.SymbolLaws.{single-kind, named-first, head-text}
use Rattle.locale_moves.specs.Named.{Holding, line_found, LineOf, subject_named, after_refusal, NamedAt, NamedNot, NamedIs, NamedWith}

-- ## The order line of a subject

line-ordered : (w : List ℕ) (f : Option ℕ) → is_found (line_found w f) ≡ is_ordered w f
line-ordered w None = refl
line-ordered w (Some v) = by (eqb (cell w v place_number) 0) (λ t. rw t) (λ t. rw t)

-- What is found with a line is what was found.
record Lined (w : List ℕ) (f : Option ℕ) (m : ℕ) : Type 0 where
  same : f ≡ Some m
  some : 1 ≤ cell w m place_number

found-lined : (w : List ℕ) (f : Option ℕ) (m : ℕ) → line_found w f ≡ Some m → Lined w f m
found-lined w None m e = absurd (let z : ◌≡◌ {A = ℕ} 0 1 = cc in omega (arith, z))
found-lined w (Some v) m e =
    by (eqb (cell w v place_number) 0)
    (λ t. let p : None ≡ Some m = rw t at e in absurd (let z : ◌≡◌ {A = ℕ} 0 1 = cc in omega (arith, z)))
    (λ t. let p : Some v ≡ Some m = rw t at e in
    let q : v ≡ m = cc in
    let z = eqb-false (cell w v place_number) 0 t in
    record { same = p; some = subst (λ (u : ℕ). 1 ≤ cell w u place_number) q (omega (arith, z)) })

one_more : (n : ℕ) → leb 1 n ≡ not (eqb n 0)
one_more n =
    by (eqb n 0)
    (λ t. rw t (let e = eqb-true n 0 t in lt-leb 1 n (omega (arith, e))))
    (λ t. rw t (let e = eqb-false n 0 t in le-leb 1 n (omega (arith, e))))

not-twice : (b : Bool) → not (not b) ≡ b
not-twice true = refl
not-twice false = refl

module _ {g : Signs} {src w : List ℕ} {x : Subject} {f : Option ℕ} (l : LineOf g src w x f) where
  -- it has a rank where it has a mark
  pub line-rank : (o : Order) (rs : List Rule) (n : ℕ) (cs : List Declaration) (ls : List OrderLine) → Known g src w o rs n cs ls → leb 1 (rank_of ls x) ≡ is_found f
  line-rank o rs n cs ls k =
      let m = mark_of (length src) k.ds x in
      one_more (rank_of ls x) ∙ ap not (rank-none g src w o rs n cs ls k x m refl) ∙ not-twice (is_ordered w m) ∙ sym (line-ordered w m) ∙ ap is_found (l.is o rs n cs ls k)

-- of a mark that is one: it is listed, and names the subject
module _ {g : Signs} {src w : List ℕ} {x : Subject} {m : ℕ} (l : LineOf g src w x (Some m)) (o : Order) (rs : List Rule) (n : ℕ) (cs : List Declaration) (ls : List OrderLine)
    (k : Known g src w o rs n cs ls) where
  lined : Lined w (mark_of (length src) k.ds x) m
  lined = found-lined w (mark_of (length src) k.ds x) m (l.is o rs n cs ls k)

  pub line-listed : one_of (eqb m) k.marks ≡ true
  line-listed = k.all m (mark-row g src w n k.ds k.holds k.holds.once m x lined.same) lined.some

  pub line-subject : subject_at g src m ≡ x
  line-subject = marked-subject g src w n k.ds k.holds k.holds.once m x lined.same

-- ## What is found at a name

module _ (g : Signs) (src w : List ℕ) (i : Spot) (f : Option ℕ) (d : Finds (key_at g src) (length src) w (key_at g src (2 * i.at)) f) where
  -- its row stands in the area
  pub found-row : {v : ℕ} → Holding g src w → f ≡ Some v → 8 * (v / 16) + 8 ≤ length w
  found-row {v} s e =
      let k = s.known in
      let j = found_within k.holds (key_at g src (2 * i.at)) v (sym (d.is s.n k.ds k.holds) ∙ e) in
      let r = k.holds.roomy.room in
      omega (arith, j, r)

  module _ (inside : is_inside i.mode ≡ true) where
    found-mark : (o : Order) (rs : List Rule) (n : ℕ) (cs : List Declaration) (ls : List OrderLine) (k : Known g src w o rs n cs ls)
        → mark_of (length src) k.ds (subject_left g src i) ≡ f
    found-mark o rs n cs ls k =
        mark-name (length src) k.ds (name_left g src i)
        ∙ ap (λ (y : Key). first y k.ds) (sym (key_at-inside g src i inside))
        ∙ sym (d.is n k.ds k.holds)

    line-with : {r : Option ℕ} → line_found w f ≡ r → LineOf g src w (subject_left g src i) r
    line-with e = record { is = λ o rs n cs ls k. ap (line_found w) (found-mark o rs n cs ls k) ∙ e }

    pub line-none : f ≡ None → LineOf g src w (subject_left g src i) None
    line-none e = line-with (ap (line_found w) e)

    module _ {v x : ℕ} (e : f ≡ Some v) (c : x ≡ cell w v place_number) where
      pub line-unlisted : x ≡ 0 → LineOf g src w (subject_left g src i) None
      line-unlisted z = line-with (ap (line_found w) e ∙ rw (eq-eqb (cell w v place_number) 0 (sym c ∙ z)))

      pub line_at : (x ≡ 0 → ⊥) → LineOf g src w (subject_left g src i) (Some v)
      line_at z = line-with (ap (line_found w) e ∙ rw (ne_eqb (cell w v place_number) 0 (λ y. z (c ∙ y))))

-- ## The answer for a name alone

module _ {f : Option ℕ} (r : Option Refusal) where
  pub with_none : (o : Option Refusal) {x : Refusal} → f ≡ None → number_or_none o ≡ lower (number_or_none r) 6 → x ≡ unwrap_or o Unknown → NamedWith f (number_or_none r) (Err x)
  with_none o {x} e z u = ap number_of u ∙ told o z ∙ rw e
    where
      told : (q : Option Refusal) → number_or_none q ≡ lower (number_or_none r) 6 → number_of (unwrap_or q Unknown) ≡ lower (number_or_none r) 6
      told (Some y) h = h
      told None h = absurd (let k = (lower-none (number_or_none r) 6 (sym h)).1 in omega arith)

  pub with-stands : {m : ℕ} → f ≡ Some m → r ≡ None → NamedWith f (number_or_none r) (Ok m)
  with-stands e z = (e, ap number_or_none z)

  pub with-refused : {m : ℕ} {x : Refusal} → f ≡ Some m → r ≡ Some x → NamedWith f (number_or_none r) (Err x)
  with-refused {m} {x} e z = rw (e, z) (sym (lower-none-right (number_of x)))

-- ## The line

refusal-unfit : (ls : List OrderLine) (os : List Token) → Unfit os (single name os) → after_refusal ls os ≡ 3
unfolding after_refusal lowest
refusal-unfit ls os u =
    let b = leb 1 (rank_of ls (subject_named os)) in
    unfit-three os (single name os) (lowest (6 unless b ∷ [])) (bounded-lowest 3 7 (6 unless b ∷ []) (bounded-unless 3 7 6 b refl, tt)) u

refusal-single : (ls : List OrderLine) (os : List Token) (b : Bool) → single name os ≡ true → leb 1 (rank_of ls (subject_named os)) ≡ b
    → after_refusal ls os ≡ lower (tokens_refusal os) (6 unless b)
unfolding after_refusal lowest lower
refusal-single ls os true h e = rw (h, e)
refusal-single ls os false h e = rw (h, e)

not_three : (g : Signs) (src w : List ℕ) (os : List Token) → Unfit os (single name os) → NamedNot g src w os 3
not_three g src w os u = record { refusal = λ o rs n cs ls k. refusal-unfit ls os u; some = λ e. omega arith }

-- a name alone
module _ (g : Signs) (src w : List ℕ) (os : List Token) (alone : single name os ≡ true) {r : ℕ} (z : r ≡ tokens_refusal os) where
  alone-refusal : {f : Option ℕ} → LineOf g src w (subject_named os) f → (o : Order) (rs : List Rule) (n : ℕ) (cs : List Declaration) (ls : List OrderLine) → Known g src w o rs n cs ls
      → after_refusal ls os ≡ lower r (6 unless is_found f)
  alone-refusal {f} l o rs n cs ls k =
      refusal-single ls os (is_found f) alone (line-rank l o rs n cs ls k) ∙ ap (λ (q : ℕ). lower q (6 unless is_found f)) (sym z)

  alone-named : (f : Option ℕ) → LineOf g src w (subject_named os) f → (y : Result ℕ Refusal) → NamedWith f r y → NamedIs g src w os y
  alone-named f l (Ok m) (e, t) =
      record { refusal = λ o rs n cs ls k. alone-refusal l o rs n cs ls k ∙ rw (e, t) (lower-none-right 0); line = subst (LineOf g src w (subject_named os)) e l }
  alone-named f l (Err x) t = record { refusal = λ o rs n cs ls k. alone-refusal l o rs n cs ls k ∙ sym t; some = number_of-some x }

module _ (g : Signs) (src : List ℕ) (p : Spot) (w : List ℕ) {h : Option (Spot × Spot)} (v : HeadIs g src p (operands_after g src p) h) where
  pub named_other : h ≡ None → NamedNot g src w (operands_after g src p) 3
  named_other e =
      let os = operands_after g src p in
      not_three g src w os (unfit-other os (eqb (token_at os 0).kind name) (single name os) (single-kind os) (subst (HeadIs g src p os) e v))

  module _ {i e : Spot} (k : h ≡ Some (i, e)) {n : Bool} (l : n ≡ eqb (length (operands_left g src true e)) 0) where
    pub named_more : n ≡ false → NamedNot g src w (operands_after g src p) 3
    named_more z =
        let a = named-first g src p w v k in
        not_three g src w (operands_after g src p)
        (inr (ap (λ (ts : List Token). single name ts) a.first ∙ single_more name a.token (operands_left g src true e) (sym l ∙ z)))

    pub named-alone : n ≡ true → {r : ℕ} → r ≡ tokens_refusal (operands_after g src p) → {f : Option ℕ} → LineOf g src w (subject_left g src i) f
        → (y : Result ℕ Refusal) → NamedWith f r y → NamedIs g src w (operands_after g src p) y
    named-alone z {r} t {f} d y q =
        let a = named-first g src p w v k in
        let ts = operands_left g src true e in
        let alone : single name (operands_after g src p) ≡ true =
        ap (λ (us : List Token). single name us) (a.first ∙ ap (λ (us : List Token). a.token ∷ us) (length-zero ts (eqb-true (length ts) 0 (sym l ∙ z))))
        ∙ rw a.kind in
        alone-named g src w (operands_after g src p) alone t f (subst (λ (x : Subject). LineOf g src w x f) (ap subject_of (sym (head-text g src p w v k))) d) y q

-- ## Phases

module _ (phase : ℕ) where
  pub opens-after : phase ≡ 5 → eqb phase 5 ≡ (eqb phase after_order || eqb phase in_block)
  opens-after e = rw (eq-eqb phase 5 e)

  pub opens-inside : (phase ≡ 5 → ⊥) → eqb phase 6 ≡ (eqb phase after_order || eqb phase in_block)
  opens-inside n = rw (ne_eqb phase 5 n)
