-- `table_layout::rules_part` meets its contract: the parts before the rules stay small.
use native.Mathlib.Omega.{arith}
use Rattle.table_layout.proofs.LayoutLaws.{ends_at-bound}
use Rattle.table_layout.proofs.rules_part.Goals as goal

pub overflow_add-result : goal.overflow_add-result
overflow_add-result c = let a = c.args in omega (arith, c.ends_at.ensures, ends_at-bound a.levels a.items c.requires.0 c.requires.1)
