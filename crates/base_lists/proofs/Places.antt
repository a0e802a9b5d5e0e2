-- Laws of what stands at a place of a list.
use mathlib.Core.Path.{◌≡◌, refl, ◌∙◌}
use mathlib.Core.List.{List, [], ◌∷◌, ◌++◌, reverse, reverse-cons}
use Prim.Native.Nat.{ℕ, zero, suc, ◌-◌, ◌<◌}
use native.Mathlib.Nat.{le_of_suc-le-suc, not-suc-le-zero}
use native.Mathlib.Decide.{dec_lt}
use native.Mathlib.Omega.{arith}
use lib.ListN.{length, get_or, length-reverse, get_or-append}
use lib.Seq.{get_or_at}

-- inside the list it does not matter what stands outside
pub get_d_default : {A : Type 0} (l : List A) (i : ℕ) (d e : A) → i < length l → get_or l i d ≡ get_or l i e
get_d_default [] i d e h = absurd (not-suc-le-zero h)
get_d_default (x ∷ xs) zero d e h = refl
get_d_default (x ∷ xs) (suc i) d e h = get_d_default xs i d e (le_of_suc-le-suc h)

-- counted from the other end
pub get_d_reverse : {A : Type 0} (xs : List A) (i : ℕ) (d : A) → i < length xs → get_or (reverse xs) i d ≡ get_or xs (length xs - 1 - i) d
get_d_reverse [] i d h = absurd (omega arith)
get_d_reverse (x ∷ xs) i d h = rw (reverse-cons x xs) (go (dec_lt i (length xs)) (get_d_reverse xs i d))
  where
    go : Dec (i < length xs) → (i < length xs → get_or (reverse xs) i d ≡ get_or xs (length xs - 1 - i) d)
        → get_or (reverse xs ++ x ∷ []) i d ≡ get_or (x ∷ xs) (length (x ∷ xs) - 1 - i) d
    go (yes l) ih =
        let e : length (x ∷ xs) - 1 - i ≡ suc (length xs - 1 - i) = omega arith in
        rw e (get_or-append (reverse xs) (x ∷ []) d i (rw (length-reverse xs) l) ∙ ih l)
    go (no l) ih =
        let e : length (x ∷ xs) - 1 - i ≡ 0 = omega arith in
        rw e (get_or_at (reverse xs) x [] d i (length-reverse xs ∙ omega arith))
