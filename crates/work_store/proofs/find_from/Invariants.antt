-- `work_store::find_from` meets its contract. The invariant: what is passed on the way has other keys, whatever source the area belongs to. It has come no
-- deeper than 259. So the measure, which falls by one for each row that is read, begins at 260 and ends at 1 or more, whatever was declared: at most 259 rows are read.
use Prim.Native.Nat.{◌-◌}
use Rattle.work_subjects.specs.Numbers.{kind_number}
use Rattle.work_store.proofs.SeekLaws.{Seeking}
use Rattle.work_store.proofs.find_from.Given as goal

abbrev pub invariant-loop-l : goal.invariant-loop-l
invariant-loop-l l = Seeking l.work l.key (kind_number l.kind) l.h l.l l.depth

abbrev pub decreases-loop-l : goal.decreases-loop-l
decreases-loop-l l = 260 - l.depth
