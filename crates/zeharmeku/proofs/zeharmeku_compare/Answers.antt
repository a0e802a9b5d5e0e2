-- `zeharmeku::zeharmeku_compare` meets its contract: one law for each case of the answer.
use Rattle.zeharmeku.proofs.AnswerLaws.{compare-decided, compare-refused}
use Rattle.zeharmeku.proofs.zeharmeku_compare.Goals as goal

pub returns-in-Ok : goal.returns-in-Ok
returns-in-Ok c = search compare-decided

pub returns-in-Err : goal.returns-in-Err
returns-in-Err c = search compare-refused
