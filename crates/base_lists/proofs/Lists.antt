-- Laws of lists that the kit's lib.ListN, lib.Seq and mathlib.Core.List do not have.
use mathlib.Core.Path.{◌≡◌, refl, ap, ◌∙◌}
use mathlib.Core.List.{List, [], ◌∷◌, ◌++◌, map, reverse, reverse_aux}
use Prim.Native.Nat.{ℕ, zero, suc, pred, ◌+◌, ◌≤◌, ◌<◌}
use native.Mathlib.Omega.{arith}
use lib.ListN.{length, get_or, set, drop}
use lib.Seq.{sets, set_comm}

-- P holds of each
abbrev pub All : {A : Type 0} → (A → Type 0) → List A → Type 0
All P [] = Unit
All P (x ∷ xs) = P x × All P xs

pub All-get_d : {A : Type 0} (P : A → Type 0) (xs : List A) (i : ℕ) (d : A) → i < length xs → All P xs → P (get_or xs i d)
All-get_d P [] i d h a = absurd (omega arith)
All-get_d P (x ∷ xs) zero d h a = a.0
All-get_d P (x ∷ xs) (suc i) d h a = All-get_d P xs i d (omega arith) a.1

All-reverse_aux : {A : Type 0} (P : A → Type 0) (xs ys : List A) → All P xs → All P ys → All P (reverse_aux xs ys)
All-reverse_aux P [] ys a b = b
All-reverse_aux P (x ∷ xs) ys a b = All-reverse_aux P xs (x ∷ ys) a.1 (a.0, b)

pub All-reverse : {A : Type 0} (P : A → Type 0) (xs : List A) → All P xs → All P (reverse xs)
All-reverse P xs a = All-reverse_aux P xs [] a tt

map_reverse_aux : {A B : Type 0} (f : A → B) (xs ys : List A) → map f (reverse_aux xs ys) ≡ reverse_aux (map f xs) (map f ys)
map_reverse_aux f [] ys = refl
map_reverse_aux f (x ∷ xs) ys = map_reverse_aux f xs (x ∷ ys)

pub map-reverse : {A B : Type 0} (f : A → B) (xs : List A) → map f (reverse xs) ≡ reverse (map f xs)
map-reverse f xs = map_reverse_aux f xs []

pub drop-map-cons : {A B : Type 0} (f : A → B) (xs : List A) (i : ℕ) (d : A) → i < length xs
    → drop i (map f xs) ≡ f (get_or xs i d) ∷ drop (suc i) (map f xs)
drop-map-cons f [] i d h = absurd (omega arith)
drop-map-cons f (x ∷ xs) zero d h = refl
drop-map-cons f (x ∷ xs) (suc i) d h = drop-map-cons f xs i d (omega arith)

pub drop-pred : {A : Type 0} (k : ℕ) (x : A) (xs : List A) → 1 ≤ k → drop (pred k) xs ≡ drop k (x ∷ xs)
drop-pred zero x xs h = absurd (omega arith)
drop-pred (suc k) x xs h = refl

pub length-zero : {A : Type 0} (xs : List A) → length xs ≡ 0 → xs ≡ []
length-zero [] h = refl
length-zero (x ∷ xs) h = absurd (omega arith)

-- stored together, or one behind the other
pub sets-append : (area : List ℕ) (at : ℕ) (a b : List ℕ) → sets area at (a ++ b) ≡ sets (sets area at a) (at + length a) b
sets-append area at [] b = let e : at + 0 ≡ at = omega arith in rw e
sets-append area at (x ∷ a) b =
    let e : suc at + length a ≡ at + suc (length a) = omega arith in
    sets-append (set area at x) (suc at) a b ∙ ap (λ (k : ℕ). sets (sets (set area at x) (suc at) a) k b) e

-- a number before them, first or last
sets-set : (area : List ℕ) (i x at : ℕ) (xs : List ℕ) → i < at → set (sets area at xs) i x ≡ sets (set area i x) at xs
sets-set area i x at [] h = refl
sets-set area i x at (y ∷ ys) h =
    sets-set (set area at y) i x (suc at) ys (omega arith) ∙ ap (λ (a : List ℕ). sets a (suc at) ys) (set_comm area at i y x (λ e. omega arith))

-- numbers before them, first or last
pub sets-swap : (area : List ℕ) (i : ℕ) (xs : List ℕ) (at : ℕ) (ys : List ℕ) → i + length xs ≤ at
    → sets (sets area at ys) i xs ≡ sets (sets area i xs) at ys
sets-swap area i [] at ys h = refl
sets-swap area i (x ∷ xs) at ys h =
    ap (λ (a : List ℕ). sets a (suc i) xs) (sets-set area i x at ys (omega arith)) ∙ sets-swap (set area i x) (suc i) xs at ys (omega arith)
