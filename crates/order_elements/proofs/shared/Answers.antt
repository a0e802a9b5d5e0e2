use Rattle.order_elements.proofs.CommonLaws.{matching-none, matching-more, matching-some, matching-all}
use Rattle.order_elements.proofs.shared.Goals as goal

pub loop-n-init : goal.loop-n-init
loop-n-init c = search matching-none

pub loop-n-preserved : goal.loop-n-preserved
loop-n-preserved c = search matching-more

pub returns-then-a-i : goal.returns-then-a-i
returns-then-a-i c = search matching-some

pub returns : goal.returns
returns c = search matching-all
