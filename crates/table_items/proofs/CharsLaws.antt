-- What the mark of an order line names: UNDEFINED, a character, a symbol or an element; so whether it gives an item, and of which characters.
use Rattle.std.specs.Prelude.{Some}
use mathlib.Core.Path.{◌≡◌, sym, ap, ◌∙◌, subst}
use mathlib.Core.Bool.{true, false, not}
use mathlib.Core.List.{List, [], ◌∷◌}
use Prim.Native.Nat.{ℕ, ◌+◌, ◌-◌, ◌*◌, ◌/◌, ◌%◌, ◌≤◌}
use native.Mathlib.Omega.{arith}
use lib.ListN.{length}
use lib.Dec.{leb, eqb}
use borrow.Author.Tests.{eqb-true, eqb-false, eq-eqb, ne_eqb, le-leb, lt-leb, leb-true}
use Rattle.base_lists.proofs.Bools.{by, clash}
use Rattle.rules.specs.Names.{char_shaped, code_of}
use Rattle.rules.specs.State.{Declaration, Subject, character, named, undefined}
use Rattle.rules.specs.OrderLines.{subject_of, is_symbol}
use Rattle.rules.specs.Compile.{chars_named, chars_of}
use Rattle.text_lines.specs.declared.Signs.{Signs}
use Rattle.text_names.specs.Named.{name_left}
use Rattle.work_rows.specs.Cells.{cell}
use Rattle.work_subjects.specs.Keys.{name_spot, quote_spot, chars_left, Key, item, chars, key_at}
use Rattle.work_subjects.proofs.KeyLaws.{key_at-name, key_at-quotes}
use Rattle.work_store.specs.Store.{Decl, first, is_place, Once, heads_of, Roomy, Holds, undefined_mark}
use Rattle.work_store.proofs.ListLaws.{nodes-keyed, place-within}
use Rattle.work_order.specs.Links.{chars_number}
use Rattle.locale_sheet.specs.Known.{Says, subject_at, is_row, mark_of}
use Rattle.locale_sheet.proofs.DeclaredLaws.{known-symbol, known-quotes, known-character}
use Rattle.locale_sheet.proofs.MarkLaws.{mark-name, below-undefined, at-undefined, at_source, subject-marked}
use Rattle.table_records.specs.Writing.{item_chars, CharsReady}
use Rattle.table_items.specs.Items.{is_item}

-- ## What a mark names

-- the name at a mark
abbrev pub name_at : Signs → List ℕ → ℕ → List ℕ
name_at g src v = name_left g src (name_spot (v / 2))

-- A mark, its row in the area w, names this subject.
pub data Names (g : Signs) (src w : List ℕ) (cs : List Declaration) (v : ℕ) : Subject → Type 0 where
  last : leb (undefined_mark (length src)) v ≡ true → v ≤ undefined_mark (length src) → Names g src w cs v undefined
  single : leb (undefined_mark (length src)) v ≡ false → v / 2 ≤ length src → char_shaped (name_at g src v) ≡ true
      → cell w v chars_number ≡ 2 * code_of (name_at g src v) + 2
      → Names g src w cs v (character (code_of (name_at g src v)))
  alone : leb (undefined_mark (length src)) v ≡ false → v / 2 ≤ length src → char_shaped (name_at g src v) ≡ false → cell w v chars_number ≡ 0
      → is_symbol cs (named (name_at g src v)) ≡ true → Names g src w cs v (named (name_at g src v))
  several : leb (undefined_mark (length src)) v ≡ false → v / 2 ≤ length src → char_shaped (name_at g src v) ≡ false → eqb (cell w v chars_number % 2) 0 ≡ false
      → is_symbol cs (named (name_at g src v)) ≡ false → cell w v chars_number / 2 ≤ length src
      → chars_left g src (quote_spot (cell w v chars_number / 2)) ≡ chars_named (name_at g src v) cs → Names g src w cs v (named (name_at g src v))

module _ (g : Signs) (src w : List ℕ) (n : ℕ) (ds : List Decl) (cs : List Declaration) (h : Holds (key_at g src) (length src) w n ds) (s : Says w ds cs)
    (o : Once ds) (v : ℕ) (r : is_row (length src) ds v ≡ true) (e : v % 2 ≡ 0) where
  abbrev m : List ℕ
  m = name_at g src v

  -- the characters of quotes stand at an odd mark
  module _ (q : ℕ) (xs : List ℕ) (f : key_at g src q ≡ chars xs) where
    quotes-odd : eqb (q % 2) 0 ≡ false
    quotes-odd = by (eqb (q % 2) 0) (λ t. absurd (apart (key_at-name g src q (eqb-true (q % 2) 0 t)) f)) (λ t. t)
      where
        apart : {k : Key} {x : Subject} → k ≡ item x → k ≡ chars xs → ⊥
        apart a b = let z : ◌≡◌ {A = ℕ} 0 1 = cc in omega (arith, z)

    quotes-are : chars_left g src (quote_spot (q / 2)) ≡ xs
    quotes-are = same_chars (sym (key_at-quotes g src q (eqb-false (q % 2) 0 quotes-odd)) ∙ f)
      where
        same_chars : {ys : List ℕ} → chars ys ≡ chars xs → ys ≡ xs
        same_chars a = cc

  module _ (p : is_place v ds ≡ true) where
    there : first (item (subject_of m)) ds ≡ Some v
    there =
        sym (mark-name (length src) ds m) ∙ ap (mark_of (length src) ds) (sym (at_source g src v (place-within h v p)))
        ∙ subject-marked g src w n ds h o v r e

    below : leb (undefined_mark (length src)) v ≡ false
    below = lt-leb (undefined_mark (length src)) v (below-undefined (length src) v (place-within h v p))

    of-named : char_shaped m ≡ false → first (item (named m)) ds ≡ Some v → Names g src w cs v (named m)
    unfolding is_symbol
    of-named t f =
        by (eqb (cell w v chars_number) 0)
        (λ z. alone below (place-within h v p) t (eqb-true (cell w v chars_number) 0 z) (known-symbol w m v ds cs s o f ∙ z))
        (λ z. let x = eqb-false (cell w v chars_number) 0 z in
        let q = known-quotes w m v (key_at g src) ds cs s (nodes-keyed h.nodes) f (positive (cell w v chars_number) x) in
        several below (place-within h v p) t (quotes-odd (cell w v chars_number) (chars_named m cs) q.are) (known-symbol w m v ds cs s o f ∙ z)
        (place-within h (cell w v chars_number) q.place) (quotes-are (cell w v chars_number) (chars_named m cs) q.are))
      where
        positive : (a : ℕ) → (a ≡ 0 → ⊥) → 1 ≤ a
        positive a z = omega (arith, z)

    of-name : Names g src w cs v (subject_of m)
    unfolding subject_of
    of-name =
        by (char_shaped m)
        (λ t. let f : first (item (character (code_of m))) ds ≡ Some v = rw t at there in
        rw t (single below (place-within h v p) t (known-character w (code_of m) v ds cs s f)))
        (λ t. let f : first (item (named m)) ds ≡ Some v = rw t at there in rw t (of-named t f))

  pub mark-names : Names g src w cs v (subject_at g src v)
  mark-names =
      by (is_place v ds)
      (λ p. subst (Names g src w cs v) (sym (at_source g src v (place-within h v p))) (of-name p))
      (λ p. let z : v ≡ undefined_mark (length src) = eqb-true v (undefined_mark (length src)) (rw p at r) in
      subst (Names g src w cs v) (sym (ap (subject_at g src) z ∙ at-undefined g src))
      (last (le-leb (undefined_mark (length src)) v (omega (arith, z))) (omega (arith, z))))

-- ## What it gives

-- the number that tells a code is even, and gives it back
module _ (x c : ℕ) (e : x ≡ 2 * c + 2) where
  told-some : eqb x 0 ≡ false
  told-some = ne_eqb x 0 (λ z. omega (arith, e, z))

  told-even : eqb (x % 2) 0 ≡ true
  told-even = eq-eqb (x % 2) 0 (omega (arith, e))

  told_back : (x - 2) / 2 ≡ c
  told_back = omega (arith, e)

-- an odd number is not 0
odd-some : (x : ℕ) → eqb (x % 2) 0 ≡ false → eqb x 0 ≡ false
odd-some x h = let n = eqb-false (x % 2) 0 h in ne_eqb x 0 (λ z. n (omega (arith, z)))

module _ (g : Signs) (src w : List ℕ) (cs : List Declaration) (v : ℕ) where
  -- an item, but for a symbol
  pub names-item : (x : Subject) → Names g src w cs v x → is_item (length src) w v ≡ not (is_symbol cs x)
  unfolding is_item is_symbol
  names-item x (last a b) = rw a
  names-item x (single a b t z) = rw (a, told-some (cell w v chars_number) (code_of (name_at g src v)) z)
  names-item x (alone a b t z y) = rw (a, z, y)
  names-item x (several a b t z y i f) = rw (a, odd-some (cell w v chars_number) z, y)

  -- its characters
  pub names-chars : (x : Subject) → Names g src w cs v x → is_symbol cs x ≡ false → item_chars g src w v ≡ chars_of cs x
  unfolding item_chars chars_of
  names-chars x (last a b) n = rw a
  names-chars x (single a b t z) n =
      rw (a, told-even (cell w v chars_number) (code_of (name_at g src v)) z) (ap (λ (c : ℕ). c ∷ []) (told_back (cell w v chars_number) (code_of (name_at g src v)) z))
  names-chars x (alone a b t z y) n = clash y n
  names-chars x (several a b t z y i f) n = rw (a, z) f

  -- its row stands in the area
  pub names-row : (x : Subject) → Names g src w cs v x → v ≤ 16 * heads_of (length src)
  names-row x (last a b) = b
  names-row x (single a b t z) = omega (arith, b)
  names-row x (alone a b t z y) = omega (arith, b)
  names-row x (several a b t z y i f) = omega (arith, b)

  -- and what it names in the source
  pub names-ready : (x : Subject) → Names g src w cs v x → Roomy (length src) w → CharsReady (length src) w v
  names-ready x (last a b) h =
      let l = leb-true (undefined_mark (length src)) v a in
      record { roomy = h; name = λ i. absurd (omega (arith, l, i)); quotes = λ i n. absurd (omega (arith, l, i)) }
  names-ready x (single a b t z) h = record { roomy = h; name = λ i. b; quotes = λ i n. absurd (n (omega (arith, z))) }
  names-ready x (alone a b t z y) h = record { roomy = h; name = λ i. b; quotes = λ i n. omega (arith, z) }
  names-ready x (several a b t z y i f) h = record { roomy = h; name = λ l. b; quotes = λ l n. i }
