use Rattle.charmap_coding.proofs.AcceptLaws.{check-accepted, check-refused}
use Rattle.charmap_coding.proofs.check_area.Goals as goal

pub returns-then-accepts : goal.returns-then-accepts
returns-then-accepts c = search check-accepted

pub returns-else-accepts : goal.returns-else-accepts
returns-else-accepts c = search check-refused
