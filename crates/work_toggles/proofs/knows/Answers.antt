-- `work_toggles::knows` meets its contract: one is found or not.
use Rattle.work_toggles.proofs.FindLaws.{knows-is}
use Rattle.work_toggles.proofs.knows.Goals as goal

pub returns : goal.returns
returns c = search knows-is
