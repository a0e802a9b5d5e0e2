use Rattle.charmap_read.proofs.EmptyLaws.{filled-start, filled_more, filled-end}
use Rattle.charmap_read.proofs.empty.Goals as goal

pub loop-i-init : goal.loop-i-init
loop-i-init c = search filled-start

pub loop-i-preserved : goal.loop-i-preserved
loop-i-preserved c = search filled_more

pub returns : goal.returns
returns c = search filled-end
