use Rattle.work_store.proofs.SeekLaws.{seeking-start, seeking-found, seeking-on, seeking-none}
use Rattle.work_store.proofs.find_from.Goals as goal

pub loop-l-init : goal.loop-l-init
loop-l-init c = search seeking-start

pub returns-then-same_key : goal.returns-then-same_key
returns-then-same_key c = search seeking-found

pub loop-l-preserved : goal.loop-l-preserved
loop-l-preserved c = search seeking-on

pub returns : goal.returns
returns c = search seeking-none
