-- `zeharmeku::zeharmeku_charmap` meets its contract: one law for each case of the answer.
use Rattle.zeharmeku.proofs.AnswerLaws.{map-done, map-refused}
use Rattle.zeharmeku.proofs.zeharmeku_charmap.Goals as goal

pub returns-in-Ok : goal.returns-in-Ok
returns-in-Ok c = search map-done

pub returns-in-Err : goal.returns-in-Err
returns-in-Err c = search map-refused
