-- `work_toggles::decision` meets its contract: three numbers in one.
use Rattle.work_toggles.proofs.CandidateLaws.{decision-is}
use Rattle.work_toggles.proofs.decision.Goals as goal

pub returns : goal.returns
returns c = search decision-is
