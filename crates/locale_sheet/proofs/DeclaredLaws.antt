-- What is found in the store is what the lines have declared.
use Rattle.std.specs.Prelude.{None, Some}
use mathlib.Core.Path.{◌≡◌, refl, sym, ap, ◌∙◌, subst}
use mathlib.Core.Bool.{true, false, ◌||◌}
use mathlib.Core.List.{List, [], ◌∷◌}
use Prim.Native.Nat.{ℕ, ◌+◌, ◌*◌, ◌≤◌}
use native.Mathlib.Omega.{arith}
use lib.Dec.{eqb}
use borrow.Author.Tests.{ne_eqb, eqb-true}
use Rattle.base_lists.proofs.Bools.{by, or-false-left, or-false-right}
use Rattle.base_lists.proofs.Lists.{All}
use Rattle.rules.specs.Text.{one_of, same}
use Rattle.rules.specs.State.{Declaration, symbol, element, character, named}
use Rattle.rules.specs.Declarations.{declares, declares_symbol}
use Rattle.rules.specs.OrderLines.{same_subject}
use Rattle.rules.specs.Compile.{chars_named}
use Rattle.rules.proofs.TextLaws.{same_true}
use Rattle.work_rows.specs.Cells.{cell}
use Rattle.work_subjects.specs.Keys.{Key, item, chars, same_key}
use Rattle.work_store.specs.Store.{Decl, first, is_place, is_found, known_in, Once, another}
use Rattle.work_store.proofs.ListLaws.{is_place-fresh, is_place-older}
use Rattle.work_order.specs.Links.{chars_number}
use Rattle.locale_sheet.specs.Known.{declared_at, Says, none, symbols, elements, characters}

same-swap : (a b : List ℕ) → same a b ≡ same b a
same-swap a b =
    by (same a b)
    (λ t. subst (λ (x : List ℕ). same a x ≡ same x a) (same_true a b t) refl)
    (λ t. by (same b a) (λ u. subst (λ (x : List ℕ). same x b ≡ same b x) (same_true b a u) refl) (λ u. t ∙ sym u))

found-cons : (k : Key) (d : Decl) (ds : List Decl) → known_in k (d ∷ ds) ≡ (same_key d.key k || known_in k ds)
unfolding known_in first
found-cons k d ds = by (same_key d.key k) (λ t. rw t) (λ t. rw t)

-- a name is declared where it is found
pub known-declared : (w : List ℕ) (n : List ℕ) (ds : List Decl) (cs : List Declaration) → Says w ds cs → known_in (item (named n)) ds ≡ one_of (declares n) cs
unfolding one_of declares same_key same_subject known_in first
known-declared w n ds cs none = refl
known-declared w n ds cs (symbols {n = m} {v} {ds = es} {cs = fs} z s) =
    found-cons (item (named n)) (declared_at (item (named m)) v) es ∙ rw (same-swap m n, known-declared w n es fs s)
known-declared w n ds cs (elements {n = m} {xs} {v} {q} {ds = es} {cs = fs} z l s) =
    found-cons (item (named n)) (declared_at (chars xs) q) (declared_at (item (named m)) v ∷ es)
    ∙ found-cons (item (named n)) (declared_at (item (named m)) v) es ∙ rw (same-swap m n, known-declared w n es fs s)
known-declared w n ds cs (characters {c = c} {v} {ds = es} {cs = fs} z s) =
    found-cons (item (named n)) (declared_at (item (character c)) v) es ∙ known-declared w n es fs s

-- a name that is not declared is no symbol's
pub none-later : (n : List ℕ) (fs : List Declaration) → one_of (declares n) fs ≡ false → one_of (declares_symbol n) fs ≡ false
unfolding one_of declares declares_symbol
none-later n [] h = refl
none-later n (symbol m ∷ fs) h = rw (or-false-left (same n m) (one_of (declares n) fs) h) (none-later n fs (or-false-right (same n m) (one_of (declares n) fs) h))
none-later n (element m xs ∷ fs) h = none-later n fs (or-false-right (same n m) (one_of (declares n) fs) h)

-- The mark of the characters of the element n, whose row is v: it is declared, and its key is those characters.
pub record Quotes (w : List ℕ) (key : ℕ → Key) (ds : List Decl) (cs : List Declaration) (n : List ℕ) (v : ℕ) : Type 0 where
  pub place : is_place (cell w v chars_number) ds ≡ true
  pub are : key (cell w v chars_number) ≡ chars (chars_named n cs)

module _ (w : List ℕ) (n : List ℕ) where
  -- a name that is found once and has no characters is a symbol's, and one that has is an element's
  pub known-symbol : (v : ℕ) (ds : List Decl) (cs : List Declaration) → Says w ds cs → Once ds → first (item (named n)) ds ≡ Some v
      → one_of (declares_symbol n) cs ≡ eqb (cell w v chars_number) 0
  unfolding one_of declares_symbol same_key same_subject known_in first
  known-symbol v ds cs none o e = absurd (let z : ◌≡◌ {A = ℕ} 0 1 = cc in omega (arith, z))
  known-symbol v ds cs (symbols {n = m} {v = u} {ds = es} {cs = fs} z s) (another x o) e =
      by (same m n)
      (λ t. let p : Some u ≡ Some v = rw t at e in let q : u ≡ v = cc in rw (same-swap n m, t, ← q, z))
      (λ t. rw (same-swap n m, t) (known-symbol v es fs s o (rw t at e)))
  known-symbol v ds cs (elements {n = m} {xs} {v = u} {q} {ds = es} {cs = fs} z l s) (another y (another x o)) e =
      by (same m n)
      (λ t. let p : Some u ≡ Some v = rw t at e in let r : u ≡ v = cc in
      let k : one_of (declares_symbol n) fs ≡ false = none-later n fs (sym (known-declared w n es fs s) ∙ ap is_found (subst (λ (a : List ℕ). first (item (named a)) es ≡ None) (same_true m n t) x)) in
      rw (k, ← r, z) (sym (ne_eqb q 0 (λ f. omega (arith, f, l)))))
      (λ t. known-symbol v es fs s o (rw t at e))
  known-symbol v ds cs (characters {c = c} {v = u} {ds = es} {cs = fs} z s) (another x o) e = known-symbol v es fs s o e

  -- its characters: their mark is declared too
  quotes-older : (v : ℕ) (key : ℕ → Key) (ds : List Decl) (cs fs : List Declaration) (d : Decl) → chars_named n fs ≡ chars_named n cs → Quotes w key ds cs n v
      → Quotes w key (d ∷ ds) fs n v
  quotes-older v key ds cs fs d e q = record {
    place = is_place-older (λ (x : ℕ). d.key) d.place ds (cell w v chars_number) q.place;
    are = q.are ∙ ap chars (sym e);
  }

  pub known-quotes : (v : ℕ) (key : ℕ → Key) (ds : List Decl) (cs : List Declaration) → Says w ds cs → All (λ (d : Decl). key d.place ≡ d.key) ds
      → first (item (named n)) ds ≡ Some v → 1 ≤ cell w v chars_number → Quotes w key ds cs n v
  unfolding chars_named same_key same_subject first
  known-quotes v key ds cs none a e l = absurd (let z : ◌≡◌ {A = ℕ} 0 1 = cc in omega (arith, z))
  known-quotes v key ds cs (symbols {n = m} {v = u} {ds = es} {cs = fs} z s) a e l =
      by (same m n)
      (λ t. let p : Some u ≡ Some v = rw t at e in let q : u ≡ v = cc in absurd (let y = rw q at z in omega (arith, y, l)))
      (λ t. quotes-older v key es fs (symbol m ∷ fs) (declared_at (item (named m)) u) refl (known-quotes v key es fs s a.1 (rw t at e) l))
  known-quotes v key ds cs (elements {n = m} {xs = ys} {v = u} {q} {ds = es} {cs = fs} z i s) a e l =
      by (same m n)
      (λ t. let p : Some u ≡ Some v = rw t at e in let r : u ≡ v = cc in
      let f : cell w v chars_number ≡ q = rw r at z in
      record {
        place = rw f (is_place-fresh (λ (x : ℕ). chars ys) q (declared_at (item (named m)) u ∷ es));
        are = ap key f ∙ a.0 ∙ rw (same-swap n m, t);
      })
      (λ t. quotes-older v key (declared_at (item (named m)) u ∷ es) fs (element m ys ∷ fs) (declared_at (chars ys) q) (rw (same-swap n m, t))
      (quotes-older v key es fs fs (declared_at (item (named m)) u) refl (known-quotes v key es fs s a.1.1 (rw t at e) l)))
  known-quotes v key ds cs (characters {c = c} {v = u} {ds = es} {cs = fs} z s) a e l =
      quotes-older v key es fs fs (declared_at (item (character c)) u) refl (known-quotes v key es fs s a.1 e l)

-- the row of a character tells its code
pub known-character : (w : List ℕ) (c v : ℕ) (ds : List Decl) (cs : List Declaration) → Says w ds cs → first (item (character c)) ds ≡ Some v
    → cell w v chars_number ≡ 2 * c + 2
unfolding same_key same_subject first
known-character w c v ds cs none e = absurd (let z : ◌≡◌ {A = ℕ} 0 1 = cc in omega (arith, z))
known-character w c v ds cs (symbols {ds = es} {cs = fs} z s) e = known-character w c v es fs s e
known-character w c v ds cs (elements {ds = es} {cs = fs} z l s) e = known-character w c v es fs s e
known-character w c v ds cs (characters {c = b} {v = u} {ds = es} {cs = fs} z s) e =
    by (eqb b c)
    (λ t. let p : Some u ≡ Some v = rw t at e in let q : u ≡ v = cc in rw (← q, ← eqb-true b c t) z)
    (λ t. known-character w c v es fs s (rw t at e))
