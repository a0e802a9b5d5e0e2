-- `work_store::declare` meets its contract: its numbers are kept, a new row has its tag, and the slot at the end of its way leads to it.
use Rattle.work_store.proofs.DeclareLaws.{declared}
use Rattle.work_store.proofs.declare.Goals as goal

pub returns : goal.returns
returns c = search declared
