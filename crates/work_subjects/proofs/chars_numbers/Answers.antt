use Rattle.work_subjects.proofs.CharsLaws.{step_less}
use Rattle.work_subjects.proofs.NumberLaws.{numbering-none, numbering-more, numbering-end}
use Rattle.work_subjects.proofs.chars_numbers.Goals as goal

pub loop-c-init : goal.loop-c-init
loop-c-init c = search numbering-none

pub loop-c-smaller : goal.loop-c-smaller
loop-c-smaller c = search step_less

pub loop-c-preserved : goal.loop-c-preserved
loop-c-preserved c = search numbering-more

pub returns : goal.returns
returns c = search numbering-end
