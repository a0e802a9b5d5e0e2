use Rattle.text_operands.proofs.LoweredLaws.{lowered_none, lowered-more, lowered-broken}
use Rattle.text_operands.proofs.refusal_left.Goals as goal

pub loop-t-init : goal.loop-t-init
loop-t-init c = search lowered_none

pub loop-t-preserved : goal.loop-t-preserved
loop-t-preserved c = search lowered-more

pub returns-in-Broken : goal.returns-in-Broken
returns-in-Broken c = search lowered-broken
