-- `zeharmeku::zeharmeku_compile` meets its contract: one law for each case of the answer.
use Rattle.zeharmeku.proofs.AnswerLaws.{compile-done, compile-refused}
use Rattle.zeharmeku.proofs.zeharmeku_compile.Goals as goal

pub returns-in-Ok : goal.returns-in-Ok
returns-in-Ok c = search compile-done

pub returns-in-Err : goal.returns-in-Err
returns-in-Err c = search compile-refused
