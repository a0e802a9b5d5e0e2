use Rattle.pairs_report.proofs.RunLaws.{taking-none, taking-more, taken-feed, taken-end}
use Rattle.pairs_report.proofs.take_run.Goals as goal

pub loop-i-init : goal.loop-i-init
loop-i-init c = search taking-none

pub returns-then-b-eq10 : goal.returns-then-b-eq10
returns-then-b-eq10 c = search taken-feed

pub loop-i-preserved : goal.loop-i-preserved
loop-i-preserved c = search taking-more

pub returns : goal.returns
returns c = search taken-end
