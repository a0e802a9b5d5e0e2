-- `work_toggles::slot_of` meets its contract: the one that is found, or the next.
use Rattle.work_toggles.proofs.FindLaws.{slot-is}
use Rattle.work_toggles.proofs.slot_of.Goals as goal

pub returns : goal.returns
returns c = search slot-is
