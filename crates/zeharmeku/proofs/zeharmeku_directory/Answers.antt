-- `zeharmeku::zeharmeku_directory` meets its contract: one law for each case of the answer.
use Rattle.zeharmeku.proofs.AnswerLaws.{directed-done, directed-refused}
use Rattle.zeharmeku.proofs.zeharmeku_directory.Goals as goal

pub returns-in-Ok : goal.returns-in-Ok
returns-in-Ok c = search directed-done

pub returns-in-Err : goal.returns-in-Err
returns-in-Err c = search directed-refused
