use Rattle.locale_standing.proofs.CountLaws.{counting-none, counting-less, counting_more, counting-last, counting-bad}
use Rattle.locale_standing.proofs.weights_left.Goals as goal

pub loop-f-init : goal.loop-f-init
loop-f-init c = search counting-none

pub loop-f-smaller : goal.loop-f-smaller
loop-f-smaller c = search counting-less

pub loop-f-preserved : goal.loop-f-preserved
loop-f-preserved c = search counting_more

pub returns-in-Last : goal.returns-in-Last
returns-in-Last c = search counting-last

pub returns-in-Bad : goal.returns-in-Bad
returns-in-Bad c = search counting-bad
