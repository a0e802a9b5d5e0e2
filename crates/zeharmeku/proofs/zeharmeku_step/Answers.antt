-- `zeharmeku::zeharmeku_step` meets its contract: one law for each case of the answer.
use Rattle.zeharmeku.proofs.AnswerLaws.{step-found, step-refused}
use Rattle.zeharmeku.proofs.zeharmeku_step.Goals as goal

pub returns-in-Ok : goal.returns-in-Ok
returns-in-Ok c = search step-found

pub returns-in-Err : goal.returns-in-Err
returns-in-Err c = search step-refused
