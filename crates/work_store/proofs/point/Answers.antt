-- `work_store::point` meets its contract.
use Rattle.work_store.proofs.SlotLaws.{point-shared, point-plain}
use Rattle.work_store.proofs.point.Goals as goal

pub returns-then-slot-eq2 : goal.returns-then-slot-eq2
returns-then-slot-eq2 c = search point-shared

pub returns-else-slot-eq2 : goal.returns-else-slot-eq2
returns-else-slot-eq2 c = search point-plain
