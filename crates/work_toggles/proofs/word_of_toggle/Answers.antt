use Rattle.work_toggles.proofs.WordLaws.{toggle-none, toggle-more, toggle-foul, toggle-ends, step_less}
use Rattle.work_toggles.proofs.word_of_toggle.Goals as goal

pub loop-b-init : goal.loop-b-init
loop-b-init c = search toggle-none

pub loop-b-smaller-then-clean : goal.loop-b-smaller-then-clean
loop-b-smaller-then-clean c = search step_less

pub loop-b-preserved-then-clean : goal.loop-b-preserved-then-clean
loop-b-preserved-then-clean c = search toggle-more

pub loop-b-smaller : goal.loop-b-smaller
loop-b-smaller c = search step_less

pub loop-b-preserved : goal.loop-b-preserved
loop-b-preserved c = search toggle-foul

pub returns : goal.returns
returns c = search toggle-ends
