use Rattle.text_names.proofs.CodeLaws.{coding-other, coding-mul, coding-add, coding-more, coding-end}
use Rattle.text_names.proofs.digits.Goals as goal

pub returns-then-d-ge16 : goal.returns-then-d-ge16
returns-then-d-ge16 c = search coding-other

pub overflow_mul-x : goal.overflow_mul-x
overflow_mul-x c = search coding-mul

pub overflow_add-x : goal.overflow_add-x
overflow_add-x c = search coding-add

pub loop-b-preserved : goal.loop-b-preserved
loop-b-preserved c = search coding-more

pub returns : goal.returns
returns c = search coding-end
