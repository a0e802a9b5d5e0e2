use Rattle.work_store.proofs.SlotLaws.{running-start, running-on, running-other, running-all}
use Rattle.work_store.proofs.same_run.Goals as goal

pub loop-i-init : goal.loop-i-init
loop-i-init c = search running-start

pub returns-then-work-at : goal.returns-then-work-at
returns-then-work-at c = search running-other

pub loop-i-preserved : goal.loop-i-preserved
loop-i-preserved c = search running-on

pub returns : goal.returns
returns c = search running-all
