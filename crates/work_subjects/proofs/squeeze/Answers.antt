use Rattle.work_subjects.proofs.SqueezeLaws.{squeezing-none, squeezing-more, squeezing-end}
use Rattle.work_subjects.proofs.squeeze.Goals as goal

pub loop-i-init : goal.loop-i-init
loop-i-init c = search squeezing-none

pub loop-i-preserved : goal.loop-i-preserved
loop-i-preserved c = search squeezing-more

pub returns : goal.returns
returns c = search squeezing-end
