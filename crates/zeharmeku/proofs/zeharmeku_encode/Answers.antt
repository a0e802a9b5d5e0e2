-- `zeharmeku::zeharmeku_encode` meets its contract: one law for each case of the answer.
use Rattle.zeharmeku.proofs.AnswerLaws.{coded-written, coded-refused}
use Rattle.zeharmeku.proofs.zeharmeku_encode.Goals as goal

pub returns-in-Ok : goal.returns-in-Ok
returns-in-Ok c = search coded-written

pub returns-in-Err : goal.returns-in-Err
returns-in-Err c = search coded-refused
