-- `work_store::new_row` meets its contract.
use lib.ListN.{length-set}
use native.Mathlib.Omega.{arith}
use Rattle.work_store.proofs.new_row.Goals as goal

pub bounds-work-row-2 : goal.bounds-work-row-2
bounds-work-row-2 c = simp length-set (omega arith)

pub shape_of-work : goal.shape_of-work
shape_of-work c = simp length-set
