-- Parts of a run: how many numbers give, what stands at a place, and that each passes.
use mathlib.Core.Path.{◌≡◌, refl, sym, ap, ◌∙◌, subst}
use mathlib.Core.Bool.{Bool, true, false, not, ◌&&◌}
use mathlib.Core.List.{List, [], ◌∷◌}
use Prim.Native.Nat.{ℕ, zero, suc, ◌+◌, ◌-◌, ◌*◌, ◌/◌, ◌≤◌, ◌<◌}
use native.Mathlib.Numerals.{add-one}
use native.Mathlib.Omega.{arith}
use lib.ListN.{length, get_or, take, drop, drop_of_length-le}
use lib.Seq.{drop-cons}
use lib.Dec.{leb}
use borrow.Author.Tests.{le-leb, lt-leb, leb-true, leb-false, not-true, not-false}
use Rattle.base_lists.proofs.Bools.{by}
use Rattle.rules.specs.Text.{every}
use Rattle.rules.specs.Order.{good_string}
use Rattle.rules.specs.Directory.{Part, part, parts_of, string_of, in_run, good_part, part_at}
use Rattle.rules.proofs.TextLaws.{every-at}

-- ## Numbers as parts

pub parts-many : (xs : List ℕ) → length xs / 2 ≡ length (parts_of xs)
unfolding parts_of
parts-many [] = refl
parts-many (a ∷ []) = refl
parts-many (a ∷ n ∷ rest) = let e = parts-many rest in omega arith

pub part-is : (xs : List ℕ) (i : ℕ) → i < length (parts_of xs) → part_at xs i ≡ part (get_or xs (2 * i) 0) (get_or xs (2 * i + 1) 0)
unfolding part_at parts_of
part-is [] i h = absurd (omega arith)
part-is (a ∷ []) i h = absurd (omega arith)
part-is (a ∷ n ∷ rest) zero h = refl
part-is (a ∷ n ∷ rest) (suc i) h =
    let e : 2 * suc i ≡ suc (suc (2 * i)) = omega arith in
    let g : suc (suc (2 * i)) + 1 ≡ suc (suc (2 * i + 1)) = omega arith in
    subst (λ (k : ℕ). get_or (parts_of rest) i (part 0 0) ≡ part (get_or (a ∷ n ∷ rest) k 0) (get_or (a ∷ n ∷ rest) (k + 1) 0)) (sym e) (rw g (part-is rest i (omega arith)))

-- both numbers of a part stand in the array
pub part-inside : (xs : List ℕ) (i : ℕ) → i < length (parts_of xs) → 2 * i + 1 < length xs
part-inside xs i h = let e = parts-many xs in omega arith

-- ## One part

-- a part that begins outside the run reaches outside it
pub begins-outside : (run : List ℕ) (a n : ℕ) → length run < a → leb a (length run) ≡ in_run run (part a n)
unfolding in_run
begins-outside run a n h = lt-leb a (length run) h ∙ sym (lt-leb (a + n) (length run) (omega arith))

-- else what the run has from its start on decides
pub begins-inside : (run : List ℕ) (a n : ℕ) → a ≤ length run → leb n (length run - a) ≡ in_run run (part a n)
unfolding in_run
begins-inside run a n h = by (leb n (length run - a))
    (λ e. let l = leb-true n (length run - a) e in e ∙ sym (le-leb (a + n) (length run) (omega arith)))
    (λ e. let l = leb-false n (length run - a) e in e ∙ sym (lt-leb (a + n) (length run) (omega arith)))

pub ends-inside : (run : List ℕ) (a n : ℕ) → in_run run (part a n) ≡ true → a + n ≤ length run
unfolding in_run
ends-inside run a n h = leb-true (a + n) (length run) h

-- what a slice from a start to an end holds is the part's string
pub slice_is : (run : List ℕ) (a n : ℕ) → take (a + n - a) (drop a run) ≡ string_of run (part a n)
unfolding string_of
slice_is run a n = let e : a + n - a ≡ n = omega arith in rw e

pub slice-good : (run : List ℕ) (a n : ℕ) {b : Bool} → b ≡ good_string (take (a + n - a) (drop a run)) → b ≡ good_part run (part a n)
unfolding good_part
slice-good run a n e = e ∙ ap good_string (slice_is run a n)

-- ## Every part

-- the parts before the i-th pass, so that those from it on decide
pub record Passing (p : Part → Bool) (parts : List ℕ) (i : ℕ) : Type 0 where
  pub to : i ≤ length (parts_of parts)
  pub same : every p (parts_of parts) ≡ every p (drop i (parts_of parts))

pub passing-none : (p : Part → Bool) (parts : List ℕ) → Passing p parts 0
passing-none p parts = record { to = omega arith; same = refl }

module _ {p : Part → Bool} {parts : List ℕ} {i n : ℕ} (v : Passing p parts i) (many : n ≡ length (parts_of parts)) where
  module _ {q : Part} {b : Bool} (h : i < n) (e : q ≡ part_at parts i) (f : b ≡ p q) where
    next-is : every p (drop i (parts_of parts)) ≡ (b && every p (drop (suc i) (parts_of parts)))
    unfolding every part_at
    next-is = rw (drop-cons (parts_of parts) i (part 0 0) (omega arith), f, e)

    pub passing-no : not b ≡ true → false ≡ every p (parts_of parts)
    passing-no k = sym (v.same ∙ next-is ∙ rw (not-true b k))

    pub passing-more : not b ≡ false → Passing p parts (i + 1)
    passing-more k = record { to = omega arith; same = v.same ∙ next-is ∙ rw (not-false b k, add-one i) }

  pub passing-all : n ≤ i → true ≡ every p (parts_of parts)
  unfolding every
  passing-all h = let l : length (parts_of parts) ≤ i = omega arith in sym (v.same ∙ rw (drop_of_length-le (parts_of parts) l))

-- one of several that pass
pub each_part : (p : Part → Bool) (parts : List ℕ) (i : ℕ) → every p (parts_of parts) ≡ true → i < length (parts_of parts) → p (part_at parts i) ≡ true
unfolding part_at
each_part p parts i e h = every-at p (parts_of parts) i (part 0 0) e h

-- a part that is read lies in the run, where all do
pub each-inside : (run parts : List ℕ) (i n : ℕ) (q : Part) → every (in_run run) (parts_of parts) ≡ true → n ≡ length (parts_of parts) → i < n
    → q ≡ part_at parts i → in_run run q ≡ true
each-inside run parts i n q e m h k = rw k (each_part (in_run run) parts i e (omega arith))
