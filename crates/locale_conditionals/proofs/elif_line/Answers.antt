-- `locale_conditionals::elif_line` meets its contract: a law for each answer.
use Rattle.locale_conditionals.proofs.StepLaws.{toggled-low}
use Rattle.locale_conditionals.proofs.TurnLaws.{elif-name, elif-foul, elif-late, elif-refuses, elif-goes}
use Rattle.locale_conditionals.proofs.elif_line.Goals as goal

pub returns-then-l : goal.returns-then-l
returns-then-l c = search elif-late

pub named_at-requires : goal.named_at-requires
named_at-requires c = search elif-name

pub refusal_with-requires : goal.refusal_with-requires
refusal_with-requires c = search toggled-low

pub returns-in-Err : goal.returns-in-Err
returns-in-Err c = search elif-refuses

pub returns-then-l-2 : goal.returns-then-l-2
returns-then-l-2 c = search elif-goes

pub returns-else-l-2 : goal.returns-else-l-2
returns-else-l-2 c = search elif-foul
