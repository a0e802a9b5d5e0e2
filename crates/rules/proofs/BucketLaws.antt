-- Buckets: there are fewer for characters than two for each item, so that UNDEFINED has one alone, behind all others.
use mathlib.Core.Path.{◌≡◌, refl, sym}
use mathlib.Core.Bool.{true, false, false≢true}
use mathlib.Core.List.{List, [], ◌∷◌}
use Prim.Native.Nat.{ℕ, zero, suc, pred, ◌*◌, ◌≤◌, ◌<◌}
use native.Mathlib.Omega.{arith}
use lib.Dec.{ltb}
use lib.Bits.{and_le_r}
use borrow.Author.Tests.{ltb-true}
use Rattle.base_lists.proofs.Bools.{cond-by}
use Rattle.rules.specs.Text.{same}
use Rattle.rules.specs.Table.{doubled, mask, bucket}

doubled-few : (n i : ℕ) → 1 ≤ i → (1 ≤ doubled n i) × (doubled n i < 2 * i)
unfolding doubled
doubled-few zero i h = (omega arith, omega arith)
doubled-few (suc n) i h =
    let r = doubled-few n i h in
    let p : ℕ = doubled n i in
    cond-by (λ (x : ℕ). (1 ≤ x) × (x < 2 * i)) (ltb p i) (λ t. let k = ltb-true p i t in (omega arith, omega arith)) (λ t. r)

mask_is : (i : ℕ) → mask i ≡ pred (doubled 15 i)
unfolding mask
mask_is i = refl

-- the buckets of characters are fewer than 2 x i
pub mask-few : (i : ℕ) → 1 ≤ i → suc (mask i) < 2 * i
mask-few i h = let d = doubled-few 15 i h in omega (arith, mask_is i, d.0, d.1)

mask-none : mask 0 < 65536
unfolding mask doubled
mask-none = let e : mask 0 ≡ 0 = refl in omega arith

-- and at most 65,536
pub mask_fits : (i : ℕ) → i ≤ 32768 → mask i < 65536
mask_fits zero h = mask-none
mask_fits (suc i) h = omega (arith, mask-few (suc i) (omega arith))

-- a character's bucket is one of theirs
pub bucket-char : (i c : ℕ) (cs : List ℕ) → bucket i (c ∷ cs) ≤ mask i
unfolding bucket
bucket-char i c cs = and_le_r c (mask i)

bucket-undefined : (i : ℕ) → bucket i [] ≡ pred (2 * i)
unfolding bucket
bucket-undefined i = refl

pub bucket-few : (i : ℕ) (cs : List ℕ) → 1 ≤ i → bucket i cs < 2 * i
bucket-few i [] h = omega (arith, bucket-undefined i)
bucket-few i (c ∷ cs) h =
    let b = mask-few i h in
    let k = bucket-char i c cs in
    omega arith

-- the last bucket is that of UNDEFINED alone
pub bucket-same : (i : ℕ) (cs : List ℕ) → 1 ≤ i → same [] cs ≡ true → pred (2 * i) ≤ bucket i cs
unfolding same
bucket-same i [] h t = omega (arith, bucket-undefined i)
bucket-same i (c ∷ cs) h t = absurd (false≢true t)

pub bucket-some : (i : ℕ) (cs : List ℕ) → 1 ≤ i → same [] cs ≡ false → bucket i cs < pred (2 * i)
unfolding same
bucket-some i [] h t = absurd (false≢true (sym t))
bucket-some i (c ∷ cs) h t =
    let b = mask-few i h in
    let k = bucket-char i c cs in
    omega arith
