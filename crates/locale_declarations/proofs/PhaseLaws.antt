-- Where a declaration may stand.
use mathlib.Core.Path.{◌≡◌}
use mathlib.Core.Bool.{◌||◌}
use Prim.Native.Nat.{ℕ}
use lib.Dec.{eqb}
use borrow.Author.Tests.{eq-eqb, ne_eqb}
use Rattle.rules.specs.State.{before_order, after_order}

module _ (phase : ℕ) where
  pub may-before : phase ≡ 3 → eqb phase 3 ≡ (eqb phase before_order || eqb phase after_order)
  may-before e = rw (eq-eqb phase 3 e)

  pub may-after : (phase ≡ 3 → ⊥) → eqb phase 5 ≡ (eqb phase before_order || eqb phase after_order)
  may-after n = rw (ne_eqb phase 3 n)
