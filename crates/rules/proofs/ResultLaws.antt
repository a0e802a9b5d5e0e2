-- Laws of an operation's result (specs/Text): a chain of tests that grants has passed each.
use Rattle.std.specs.Prelude.{if◌then◌else◌}
use mathlib.Core.Path.{◌≡◌, refl}
use mathlib.Core.Bool.{Bool, true, false}
use Prim.Native.Nat.{ℕ}
use native.Mathlib.Omega.{arith}
use Rattle.rules.specs.Text.{Result, granted, refused}

-- one answer only
pub granted-unique : {A : Type 0} {x y : A} → granted x ≡ granted y → x ≡ y
granted-unique e = cc

-- what is granted after a test was not refused by it
pub granted-else : {A : Type 0} (t : Bool) (n l : ℕ) {r : Result A} {x : A} → (if t then refused n l else r) ≡ granted x → (t ≡ false) × (r ≡ granted x)
granted-else true n l {r} {x} e = let z : ◌≡◌ {A = ℕ} 0 1 = cc in absurd (omega arith)
granted-else false n l e = (refl, e)

-- what is granted after a test let it by
pub granted-then : {A : Type 0} (t : Bool) (n l : ℕ) {r : Result A} {x : A} → (if t then r else refused n l) ≡ granted x → (t ≡ true) × (r ≡ granted x)
granted-then true n l e = (refl, e)
granted-then false n l {r} {x} e = let z : ◌≡◌ {A = ℕ} 0 1 = cc in absurd (omega arith)
