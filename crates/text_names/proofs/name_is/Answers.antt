use Rattle.text_names.proofs.CompareLaws.{beside_none, beside-short, beside-not, beside-more, beside_end}
use Rattle.text_names.proofs.name_is.Goals as goal

pub loop-b-init : goal.loop-b-init
loop-b-init c = search beside_none

pub returns-in_default : goal.returns-in_default
returns-in_default c = search beside-not

pub returns-in_default-2 : goal.returns-in_default-2
returns-in_default-2 c = search beside-short

pub loop-b-preserved : goal.loop-b-preserved
loop-b-preserved c = search beside-more

pub returns : goal.returns
returns c = search beside_end
