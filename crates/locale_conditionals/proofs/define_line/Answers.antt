-- `locale_conditionals::define_line` meets its contract: a law for each answer.
use Rattle.locale_conditionals.proofs.StepLaws.{toggled-low, may-name, foul-line, define-next, define-refuses}
use Rattle.locale_conditionals.proofs.define_line.Goals as goal

pub named_at-requires : goal.named_at-requires
named_at-requires c = search may-name

pub refusal_with-requires : goal.refusal_with-requires
refusal_with-requires c = search toggled-low

pub returns-in-Err : goal.returns-in-Err
returns-in-Err c = search define-refuses

pub returns-then-l : goal.returns-then-l
returns-then-l c = search define-next

pub returns-else-l : goal.returns-else-l
returns-else-l c = search foul-line
