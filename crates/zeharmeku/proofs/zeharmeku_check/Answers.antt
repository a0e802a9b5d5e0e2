-- `zeharmeku::zeharmeku_check` meets its contract: one law for each case of the answer.
use Rattle.zeharmeku.proofs.AnswerLaws.{check-accepted, check-refused}
use Rattle.zeharmeku.proofs.zeharmeku_check.Goals as goal

pub returns-in-Ok : goal.returns-in-Ok
returns-in-Ok c = search check-accepted

pub returns-in-Err : goal.returns-in-Err
returns-in-Err c = search check-refused
