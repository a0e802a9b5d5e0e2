-- Which of two runs of numbers comes first, as slices are compared.
use Rattle.std.proofs.Common.{◌≡◌, ℕ, ◌+◌, ◌<◌, ◌≤◌, Bool, take, drop, length-take-le, length-drop, Less, Equal, Greater, eqb-true, List, [], ◌∷◌, length, Some, refl, arith, ltb, eqb}
use Rattle.std.specs.Ordering.{nat_cmp, is_lt, is_some_and}
use Rattle.std.specs.Cmp.Lexicographic.{slice_partial_cmp}
use borrow.Author.Tests.{ltb-true, ltb-false, eqb-false}
use Rattle.base_lists.proofs.Bools.{by}
use Rattle.rules.specs.Table.{before}

pub less-before : (xs ys : List ℕ) → length xs ≡ length ys → is_some_and is_lt (slice_partial_cmp (λ x y. Some (nat_cmp x y)) xs ys) ≡ before xs ys
unfolding before
less-before [] [] h = refl
less-before [] (y ∷ ys) h = absurd (omega arith)
less-before (x ∷ xs) [] h = absurd (omega arith)
less-before (x ∷ xs) (y ∷ ys) h =
    by (ltb x y)
    (λ t. rw t)
    (λ t.
    by (eqb x y)
    (λ e. rw (t, e) (less-before xs ys (omega arith)))
    (λ e. rw (t, e)))

-- two items have as many numbers
pub fours-long : (t : List ℕ) {xs ys : List ℕ} (f g : ℕ) → xs ≡ take 4 (drop f t) → ys ≡ take 4 (drop g t) → f + 4 ≤ length t → g + 4 ≤ length t → length xs ≡ length ys
fours-long t f g d e h k =
    rw (d, e, length-take-le 4 (drop f t) (simp length-drop (omega arith)), length-take-le 4 (drop g t) (simp length-drop (omega arith)))
