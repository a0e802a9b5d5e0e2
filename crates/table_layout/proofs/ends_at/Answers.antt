-- `table_layout::ends_at` meets its contract: the product stays small, as endsAt does for 8 levels and 32,768 items.
use native.Mathlib.Omega.{arith}
use Rattle.table_layout.proofs.LayoutLaws.{ends_at-is, ends_at-bound}
use Rattle.table_layout.proofs.ends_at.Goals as goal

pub overflow_mul-result : goal.overflow_mul-result
overflow_mul-result c = let a = c.args in omega (arith, ends_at-is a.levels a.k, ends_at-bound a.levels a.k c.requires.0 c.requires.1)

pub overflow_add-result : goal.overflow_add-result
overflow_add-result c = let a = c.args in omega (arith, ends_at-is a.levels a.k, ends_at-bound a.levels a.k c.requires.0 c.requires.1)

pub returns : goal.returns
returns c = let a = c.args in omega (arith, ends_at-is a.levels a.k)
