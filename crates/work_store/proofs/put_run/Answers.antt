use Rattle.work_store.proofs.SlotLaws.{writing_start, writing-on, writing-all}
use Rattle.work_store.proofs.put_run.Goals as goal

pub loop-i-init : goal.loop-i-init
loop-i-init c = search writing_start

pub loop-i-preserved : goal.loop-i-preserved
loop-i-preserved c = search writing-on

pub returns : goal.returns
returns c = search writing-all
