-- The answer array: as many numbers are told as it has room for.
use mathlib.Core.Path.{◌≡◌, refl, sym, ap, ◌∙◌}
use mathlib.Core.List.{List, [], ◌∷◌, ◌++◌}
use Prim.Native.Nat.{ℕ, zero, suc, ◌≤◌, min}
use native.Mathlib.Omega.{arith}
use lib.ListN.{length, take, drop}
use lib.Seq.{length-take-le}
use Rattle.zeharmeku.specs.Told.{told}

told-front : (m : ℕ) (ns array : List ℕ) → m ≡ min (length array) (length ns) → take m ns ++ drop m array ≡ told ns array
unfolding told
told-front zero [] array e = refl
told-front zero (n ∷ ns) [] e = refl
told-front zero (n ∷ ns) (x ∷ array) e = absurd (omega arith)
told-front (suc m) [] array e = absurd (omega arith)
told-front (suc m) (n ∷ ns) [] e = absurd (omega arith)
told-front (suc m) (n ∷ ns) (x ∷ array) e = ap (λ (l : List ℕ). n ∷ l) (told-front m ns array (omega arith))

module _ (ns array : List ℕ) {m : ℕ} (e : m ≡ min (length array) (length ns)) where
  pub front-alike : length (take m array) ≡ length (take m ns)
  front-alike = length-take-le m array (omega arith) ∙ sym (length-take-le m ns (omega arith))

  pub told-all : {front : List ℕ} → front ≡ take m ns → front ++ drop m array ≡ told ns array
  told-all f = ap (λ (l : List ℕ). l ++ drop m array) f ∙ told-front m ns array e
