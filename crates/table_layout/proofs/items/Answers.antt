-- `table_layout::items` meets its contract: an accepted table has its header, whose second number counts the items.
use Rattle.table_layout.proofs.PartLaws.{table-head, table-items}
use native.Mathlib.Omega.{arith}
use Rattle.table_layout.proofs.items.Goals as goal

pub bounds-t-1 : goal.bounds-t-1
bounds-t-1 c = let h = table-head c.args.t.now c.requires in omega arith

pub overflow_cast-result : goal.overflow_cast-result
overflow_cast-result c = omega (arith, c.type_inv.t 1)

pub returns : goal.returns
returns c = table-items c.args.t.now c.requires
