use Rattle.table_check.proofs.EndLaws.{ending-none, ending-more, ending-good, ending-bad}
use Rattle.table_check.proofs.ends_pass.Goals as goal

pub loop-end-init : goal.loop-end-init
loop-end-init c = search ending-none

pub loop-end-preserved : goal.loop-end-preserved
loop-end-preserved c = search ending-more

pub returns-then-good : goal.returns-then-good
returns-then-good c = search ending-good

pub returns-else-good : goal.returns-else-good
returns-else-good c = search ending-bad
