use Rattle.order_directory.proofs.HeadingLaws.{weighing-none, weighing-no, weighing-more, weighing-all}
use Rattle.order_directory.proofs.weigh.Goals as goal

pub loop-i-init : goal.loop-i-init
loop-i-init c = search weighing-none

pub returns-then-w-last : goal.returns-then-w-last
returns-then-w-last c = search weighing-no

pub loop-i-preserved : goal.loop-i-preserved
loop-i-preserved c = search weighing-more

pub returns : goal.returns
returns c = search weighing-all
