use Rattle.work_toggles.proofs.CopyLaws.{compare-start, compare-more, compare-differ, compare-end}
use Rattle.work_toggles.proofs.first_difference.Goals as goal

pub loop-i-init : goal.loop-i-init
loop-i-init c = search compare-start

pub loop-i-preserved : goal.loop-i-preserved
loop-i-preserved c = search compare-more

pub returns-then-a-i : goal.returns-then-a-i
returns-then-a-i c = search compare-differ

pub returns : goal.returns
returns c = search compare-end
