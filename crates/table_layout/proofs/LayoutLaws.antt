-- Where the parts begin: the laws of ends_at, which hides a product of two variables.
use mathlib.Core.Path.{◌≡◌, refl}
use Prim.Native.Nat.{ℕ, suc, ◌+◌, ◌*◌, ◌≤◌, ◌<◌}
use native.Mathlib.Nat.{suc-mul, mul-le-mul, mul-le-mul_right}
use native.Mathlib.Omega.{arith}
use mir.Syntax.{w32, w64}
use mir.Val.{Fits}
use Rattle.table_layout.specs.Parts.{ends_at, weights_part}

pub ends_at-is : (l k : ℕ) → ends_at l k ≡ 16 + k * l
unfolding ends_at
ends_at-is l k = refl

pub ends_at-bound : (l n : ℕ) → l ≤ 8 → n ≤ 32768 → ends_at l n ≤ 262160
ends_at-bound l n h k =
    let m : n * l ≤ 262144 = mul-le-mul {n₁ = n} {m₁ = l} {n₂ = 32768} {m₂ = 8} k h in
    omega (arith, ends_at-is l n, m)

pub ends_at-least : (l k : ℕ) → 16 ≤ ends_at l k
ends_at-least l k = omega (arith, ends_at-is l k)

-- the ends of each item stand before the characters
pub ends_at-room : (l k n : ℕ) → k < n → ends_at l k + l ≤ ends_at l n
ends_at-room l k n h =
    let m : suc k * l ≤ n * l = mul-le-mul_right {m = suc k} {n = n} l h in
    omega (arith, ends_at-is l k, ends_at-is l n, suc-mul k l, m)

-- where the weights begin is not far
pub weights_part-bound : (l n : ℕ) → l ≤ 8 → n ≤ 32768 → weights_part l n ≤ 458776
weights_part-bound l n h k = omega (arith, ends_at-bound l n h k)

-- where w weights end fits 64 bits
pub end_fits : (l n : ℕ) {a w : ℕ} → a ≡ weights_part l n → l ≤ 8 → n ≤ 32768 → Fits w32 w → Fits w64 (a + w)
end_fits l n e h k f = omega (arith, e, weights_part-bound l n h k)
