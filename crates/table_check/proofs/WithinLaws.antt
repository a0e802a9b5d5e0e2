-- The loop of all_within: what it knows when its test is reached, and what a turn or the end makes of that.
use Rattle.std.proofs.Common.{◌≡◌, ℕ, suc, ◌+◌, ◌<◌, ◌≤◌, Bool, true, ◌&&◌, List, length, get_or, drop, refl, sym, ◌∙◌, add-one, drop-cons, drop_of_length-le}
use mathlib.Core.Bool.{and-true, and_assoc}
use Rattle.rules.specs.Text.{every}

-- so far all is good exactly if the first i passed
pub record Passing (p : ℕ → Bool) (xs : List ℕ) (i : ℕ) (good : Bool) : Type 0 where
  pub same : every p xs ≡ (good && every p (drop i xs))

pub passing-none : (p : ℕ → Bool) (xs : List ℕ) → Passing p xs 0 true
passing-none p xs = record { same = refl }

module _ {p : ℕ → Bool} {xs : List ℕ} {i : ℕ} {good : Bool} (v : Passing p xs i good) where
  pub passing-more : i < length xs → {g : Bool} → g ≡ p (get_or xs i 0) → Passing p xs (i + 1) (good && g)
  unfolding every
  passing-more h e = record {
    same = v.same ∙ rw (add-one, e, drop-cons xs i 0 h) (sym (and_assoc good (p (get_or xs i 0)) (every p (drop (suc i) xs))));
  }

  pub passing-all : length xs ≤ i → good ≡ every p xs
  unfolding every
  passing-all h = sym (v.same ∙ rw (drop_of_length-le xs h) (and-true good))
