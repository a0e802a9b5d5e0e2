-- `work_toggles::spot_of` meets its contract.
use Rattle.work_toggles.proofs.AreaLaws.{spot-there}
use Rattle.work_toggles.proofs.spot_of.Goals as goal

pub returns : goal.returns
returns c = search spot-there
