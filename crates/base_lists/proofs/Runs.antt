-- A run of a list: its numbers from one place up to another, as a loop passes them.
use mathlib.Core.Path.{◌≡◌, refl, ap}
use mathlib.Core.List.{List, [], ◌∷◌}
use Prim.Native.Nat.{ℕ, suc, ◌+◌, ◌-◌, ◌≤◌, ◌<◌}
use native.Mathlib.Numerals.{add-one}
use native.Mathlib.Omega.{arith}
use lib.ListN.{length, get_or, take, drop}
use lib.Seq.{drop-cons}

-- from i up to, not including, end
unfoldable pub run : List ℕ → ℕ → ℕ → List ℕ
run t i end = take (end - i) (drop i t)

-- n numbers from a place on
pub run-whole : (t : List ℕ) (from n : ℕ) → take n (drop from t) ≡ run t from (from + n)
unfolding run
run-whole t from n = let e : from + n - from ≡ n = omega arith in rw e

pub run-part : (t : List ℕ) (i end : ℕ) → take (end - i) (drop i t) ≡ run t i end
unfolding run
run-part t i end = refl

pub run_none : (t : List ℕ) (i end : ℕ) → end ≤ i → run t i end ≡ []
unfolding run
run_none t i end h = let e : end - i ≡ 0 = omega arith in rw e

pub run-cons : (t : List ℕ) (i end : ℕ) → i < end → end ≤ length t → run t i end ≡ get_or t i 0 ∷ run t (i + 1) end
unfolding run
run-cons t i end h k =
    let l : i < length t = omega arith in
    let e : end - i ≡ suc (end - (i + 1)) = omega arith in
    rw (e, drop-cons t i 0 l, add-one i)

-- the first of n numbers from a place on, and the others
pub run-first : (t : List ℕ) (from n : ℕ) → 0 < n → from + n ≤ length t
    → take n (drop from t) ≡ get_or t from 0 ∷ take (n - 1) (drop (from + 1) t)
run-first t from n h k =
    let e : n ≡ suc (n - 1) = omega arith in
    let l : from < length t = omega arith in
    rw (drop-cons t from 0 l, add-one from) (ap (λ (m : ℕ). take m (get_or t from 0 ∷ drop (suc from) t)) e)
