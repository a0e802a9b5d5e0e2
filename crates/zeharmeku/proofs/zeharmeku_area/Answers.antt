-- `zeharmeku::zeharmeku_area` meets its contract: one law for each case of the answer.
use Rattle.zeharmeku.proofs.AnswerLaws.{area-accepted, area-refused}
use Rattle.zeharmeku.proofs.zeharmeku_area.Goals as goal

pub returns-in-Ok : goal.returns-in-Ok
returns-in-Ok c = search area-accepted

pub returns-in-Err : goal.returns-in-Err
returns-in-Err c = search area-refused
