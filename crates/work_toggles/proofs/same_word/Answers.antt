use Rattle.work_toggles.proofs.WordLaws.{agree-none, agree-more, agree-not, agree-longer, agree-end, step_less}
use Rattle.work_toggles.proofs.same_word.Goals as goal

pub loop-a-init : goal.loop-a-init
loop-a-init c = search agree-none

pub loop-a-smaller : goal.loop-a-smaller
loop-a-smaller c = search step_less

pub loop-a-preserved : goal.loop-a-preserved
loop-a-preserved c = search agree-more

pub returns-then-a-b : goal.returns-then-a-b
returns-then-a-b c = search agree-not

pub returns-in_default-word_byte : goal.returns-in_default-word_byte
returns-in_default-word_byte c = search agree-longer

pub returns : goal.returns
returns c = search agree-end
