-- `table_layout::bucket_in` meets its contract: number 3 of an accepted table is the mask of its buckets.
use native.Mathlib.Omega.{arith}
use lib.ListN.{get_or}
use lib.Bits.{and_le_r}
use Rattle.table_layout.proofs.PartLaws.{table-head}
use Rattle.table_layout.proofs.IndexLaws.{bucket-is}
use Rattle.table_layout.proofs.bucket_in.Goals as goal

pub bounds-t-3 : goal.bounds-t-3
bounds-t-3 c = let h = table-head c.args.t.now c.requires in omega arith

pub overflow_cast-result : goal.overflow_cast-result
overflow_cast-result c = let a = c.args in omega (arith, c.type_inv.t 3, and_le_r a.c (get_or a.t.now 3 0))

pub returns : goal.returns
returns c = search bucket-is
