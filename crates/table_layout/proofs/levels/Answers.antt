-- `table_layout::levels` meets its contract: an accepted table has its header, whose first number counts the levels.
use Rattle.table_layout.proofs.PartLaws.{table-head, table-levels}
use native.Mathlib.Omega.{arith}
use Rattle.table_layout.proofs.levels.Goals as goal

pub bounds-t-0 : goal.bounds-t-0
bounds-t-0 c = let h = table-head c.args.t.now c.requires in omega arith

pub overflow_cast-result : goal.overflow_cast-result
overflow_cast-result c = omega (arith, c.type_inv.t 0)

pub returns : goal.returns
returns c = table-levels c.args.t.now c.requires
