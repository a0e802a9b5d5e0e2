-- `work_store::linked` meets its contract.
use Rattle.work_store.proofs.SlotLaws.{linked-shared, linked-plain}
use Rattle.work_store.proofs.linked.Goals as goal

pub returns-then-slot-eq2 : goal.returns-then-slot-eq2
returns-then-slot-eq2 c = search linked-shared

pub returns-else-slot-eq2 : goal.returns-else-slot-eq2
returns-else-slot-eq2 c = search linked-plain
