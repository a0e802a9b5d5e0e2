use Rattle.order_elements.proofs.CutLaws.{cutting-none, cutting-more, cut_all}
use Rattle.order_elements.proofs.split.Goals as goal

pub loop-at-init : goal.loop-at-init
loop-at-init c = search cutting-none

pub loop-at-preserved : goal.loop-at-preserved
loop-at-preserved c = search cutting-more

pub returns : goal.returns
returns c = search cut_all
