-- `zeharmeku::zeharmeku_key` meets its contract: one law for each case of the answer.
use Rattle.zeharmeku.proofs.AnswerLaws.{key-written, key-refused}
use Rattle.zeharmeku.proofs.zeharmeku_key.Goals as goal

pub returns-in-Ok : goal.returns-in-Ok
returns-in-Ok c = search key-written

pub returns-in-Err : goal.returns-in-Err
returns-in-Err c = search key-refused
