-- Writing what stands for each number of a list to the front of an area, one after the other: what a loop that does so keeps.
use mathlib.Core.Path.{◌≡◌, refl, ap, ◌∙◌}
use mathlib.Core.List.{List, [], ◌∷◌, ◌++◌, map}
use Prim.Native.Nat.{ℕ, zero, suc, ◌+◌, ◌≤◌, ◌<◌}
use native.Mathlib.Numerals.{add-one}
use native.Mathlib.Nat.{le_of_suc-le-suc}
use native.Mathlib.Omega.{arith}
use lib.ListN.{length, get_or, take, drop, set, length-set, length-map}
use lib.Seq.{take_all}
use Rattle.rules.specs.Calls.{over}

-- one number more
put_next : (f : ℕ → ℕ) (xs o : List ℕ) (i : ℕ) → i < length xs → i < length o
    → set (map f (take i xs) ++ drop i o) i (f (get_or xs i 0)) ≡ map f (take (suc i) xs) ++ drop (suc i) o
put_next f [] o i h k = absurd (omega arith)
put_next f (x ∷ xs) [] i h k = absurd (omega arith)
put_next f (x ∷ xs) (y ∷ o) zero h k = refl
put_next f (x ∷ xs) (y ∷ o) (suc i) h k =
    ap (λ (l : List ℕ). f x ∷ l) (put_next f xs o i (le_of_suc-le-suc h) (le_of_suc-le-suc k))

-- what stands for the numbers before i is written
pub record Putting (f : ℕ → ℕ) (xs o₀ o : List ℕ) (i : ℕ) : Type 0 where
  pub to : i ≤ length xs
  pub there : o ≡ map f (take i xs) ++ drop i o₀
  pub long : length o ≡ length o₀

pub putting-none : (f : ℕ → ℕ) (xs o : List ℕ) → Putting f xs o o 0
putting-none f xs o = record { to = omega arith; there = refl; long = refl }

module _ {f : ℕ → ℕ} {xs o₀ o : List ℕ} {i : ℕ} (v : Putting f xs o₀ o i) where
  pub putting-more : {x : ℕ} → i < length xs → length xs ≤ length o₀ → x ≡ f (get_or xs i 0) → Putting f xs o₀ (set o i x) (i + 1)
  putting-more {x} h k e = record {
    to = omega arith;
    there = rw (v.there, e, add-one i) (put_next f xs o₀ i h (omega arith));
    long = length-set o i x ∙ v.long;
  }

  pub putting-all : length xs ≤ i → o ≡ over (map f xs) o₀
  putting-all h =
      let e : i ≡ length xs = omega (arith, v.to) in
      v.there ∙ rw (length-map xs f, e, take_all (length xs) xs (omega arith))
