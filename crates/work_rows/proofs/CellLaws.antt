-- What a number of a row is after another was written.
use mathlib.Core.Path.{◌≡◌}
use mathlib.Core.List.{List}
use Prim.Native.Nat.{ℕ, ◌+◌, ◌*◌, ◌/◌, ◌≤◌, ◌<◌}
use native.Mathlib.Omega.{arith}
use lib.ListN.{length, set}
use lib.Seq.{get_or-set_same, get_or-set_other}
use Rattle.work_rows.specs.Cells.{cell_at, cell}

-- two marks of different rows
abbrev pub Apart : ℕ → ℕ → Type 0
Apart u v = u / 16 ≡ v / 16 → ⊥

-- the number itself
pub cell-told : (w : List ℕ) (v k x : ℕ) → k < 5 → 8 * (v / 16) + 8 ≤ length w → cell (set w (cell_at v k) x) v k ≡ x
cell-told w v k x h l = get_or-set_same w (cell_at v k) x 0 (omega (arith, h, l))

-- another of the five, of any row
pub cell_other : (w : List ℕ) (u j v k x : ℕ) → j < 5 → k < 5 → (j ≡ k → ⊥) → cell (set w (cell_at u j) x) v k ≡ cell w v k
cell_other w u j v k x h l n = get_or-set_other w (cell_at u j) (cell_at v k) x 0 (λ e. n (omega (arith, e, h, l)))

-- a number of another row
pub cell_apart : (w : List ℕ) (u j v k x : ℕ) → j < 5 → k < 5 → Apart u v → cell (set w (cell_at u j) x) v k ≡ cell w v k
cell_apart w u j v k x h l n = get_or-set_other w (cell_at u j) (cell_at v k) x 0 (λ e. n (omega (arith, e, h, l)))
