-- Codes: what `all` answers of them.
use mathlib.Core.Path.{◌≡◌, refl, ◌∙◌}
use mathlib.Core.Bool.{Bool}
use mathlib.Core.List.{List, [], ◌∷◌}
use Prim.Native.Nat.{ℕ}
use Rattle.std.specs.List.{list_all}
use Rattle.rules.specs.Text.{every}
use Rattle.rules.specs.Coding.{is_code}

pub every-all : (p : ℕ → Bool) (xs : List ℕ) → list_all p xs ≡ every p xs
unfolding every
every-all p [] = refl
every-all p (x ∷ xs) = rw (every-all p xs)

pub codes_all : (codes : List ℕ) {r : Bool} → r ≡ list_all is_code codes → r ≡ every is_code codes
codes_all codes e = e ∙ every-all is_code codes
