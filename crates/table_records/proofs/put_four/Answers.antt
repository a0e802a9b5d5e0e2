-- `table_records::put_four` meets its contract.
use native.Mathlib.Omega.{arith}
use lib.ListN.{length-set}
use Rattle.table_records.proofs.ItemLaws.{four-stored}
use Rattle.table_records.proofs.put_four.Goals as goal

pub bounds-area-at-2 : goal.bounds-area-at-2
bounds-area-at-2 c = simp length-set (omega arith)

pub bounds-area-at-3 : goal.bounds-area-at-3
bounds-area-at-3 c = simp length-set (omega arith)

pub bounds-area-at-4 : goal.bounds-area-at-4
bounds-area-at-4 c = simp length-set (omega arith)

pub shape_of-area : goal.shape_of-area
shape_of-area c = simp length-set

pub returns : goal.returns
returns c = search four-stored
