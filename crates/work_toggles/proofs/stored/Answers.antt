-- `work_toggles::stored` meets its contract: twice the place, and one more or not.
use Rattle.work_toggles.proofs.AreaLaws.{stored_on, stored-off}
use Rattle.work_toggles.proofs.stored.Goals as goal

pub returns-then-on : goal.returns-then-on
returns-then-on c = search stored_on

pub returns-else-on : goal.returns-else-on
returns-else-on c = search stored-off
