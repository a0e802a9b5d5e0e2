-- The tests on one byte: the mode after it, whether it is text.
use mathlib.Core.Path.{◌≡◌}
use mathlib.Core.Bool.{◌||◌, or-false}
use Prim.Native.Nat.{ℕ, ◌≤◌}
use native.Mathlib.Omega.{arith}
use lib.Dec.{eqb, leb}
use borrow.Author.Tests.{ne_eqb, le-leb}
use Rattle.rules.specs.Text.{within}
use Rattle.rules.specs.Lines.{after}

-- ## Modes

pub after-name : {mode b : ℕ} → mode ≡ 1 → (b ≡ 62 → ⊥) → 1 ≡ after mode b
unfolding after
after-name {b = b} e f = rw e (simp (ne_eqb b 62 f))

pub after-quoted-name : {mode b : ℕ} → mode ≡ 2 → b ≡ 60 → 3 ≡ after mode b
unfolding after
after-quoted-name e f = rw (e, f)

pub after-quoted : {mode b : ℕ} → mode ≡ 2 → (b ≡ 60 → ⊥) → (b ≡ 34 → ⊥) → 2 ≡ after mode b
unfolding after
after-quoted {b = b} e f h = rw e (simp (ne_eqb b 60 f, ne_eqb b 34 h))

pub after-inner-close : {mode b : ℕ} → mode ≡ 3 → b ≡ 62 → 2 ≡ after mode b
unfolding after
after-inner-close e f = rw (e, f)

pub after-inner : {mode b : ℕ} → mode ≡ 3 → (b ≡ 62 → ⊥) → 3 ≡ after mode b
unfolding after
after-inner {b = b} e f = rw e (simp (ne_eqb b 62 f))

-- ## Text

pub text-high : (b : ℕ) → 32 ≤ b → leb b 126 ≡ (within 32 126 b || eqb b 9)
text-high b h = simp (le-leb 32 b h, ne_eqb b 9 (λ e. omega arith), or-false)
