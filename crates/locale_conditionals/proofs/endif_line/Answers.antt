-- `locale_conditionals::endif_line` meets its contract: a law for each answer.
use Rattle.locale_conditionals.proofs.TurnLaws.{endif-foul, endif-more, endif-ends}
use Rattle.locale_conditionals.proofs.endif_line.Goals as goal

pub returns-then-not-no_operand : goal.returns-then-not-no_operand
returns-then-not-no_operand c = λ w. search endif-more

pub returns-then-l : goal.returns-then-l
returns-then-l c = λ w. search endif-ends

pub returns-else-l : goal.returns-else-l
returns-else-l c = λ w. search endif-foul
