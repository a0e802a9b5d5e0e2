-- `locale_conditionals::else_line` meets its contract: a law for each answer.
use Rattle.locale_conditionals.proofs.TurnLaws.{else-foul, else-late, else-more, else-goes}
use Rattle.locale_conditionals.proofs.else_line.Goals as goal

pub returns-then-l : goal.returns-then-l
returns-then-l c = λ w. search (else-late)

pub returns-then-not-no_operand : goal.returns-then-not-no_operand
returns-then-not-no_operand c = λ w. search else-more

pub returns-then-l-2 : goal.returns-then-l-2
returns-then-l-2 c = λ w. search else-goes

pub returns-else-l-2 : goal.returns-else-l-2
returns-else-l-2 c = λ w. search else-foul
