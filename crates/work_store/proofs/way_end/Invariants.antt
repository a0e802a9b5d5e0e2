-- `work_store::way_end` meets its contract. The invariant: the way is followed as far as a depth, and a slot leads on from there. The measure is what is left of the rows.
use Prim.Native.Nat.{◌-◌}
use Rattle.work_store.proofs.DeclareLaws.{Walks}
use Rattle.work_store.proofs.way_end.Given as goal

abbrev pub invariant-loop-depth : goal.invariant-loop-depth
invariant-loop-depth l = Walks l.heads l.work l.h l.key l.slot l.depth

abbrev pub decreases-loop-depth : goal.decreases-loop-depth
decreases-loop-depth l = l.heads - l.depth
