-- `work_toggles::is_taken` meets its contract: both tests.
use Rattle.work_toggles.proofs.CandidateLaws.{taken_here, taken-elsewhere}
use Rattle.work_toggles.proofs.is_taken.Goals as goal

pub returns-then-d-c : goal.returns-then-d-c
returns-then-d-c c = search taken_here

pub returns-else-d-c : goal.returns-else-d-c
returns-else-d-c c = search taken-elsewhere
