-- `locale_conditionals::if_line` meets its contract: a law for each answer.
use borrow.Author.Tests.{not-true, not-false}
use Rattle.locale_conditionals.proofs.StepLaws.{may-name, toggled-low, foul-line, if-opens, if-deep, if-refuses}
use Rattle.locale_conditionals.proofs.if_line.Goals as goal

pub named_at-requires : goal.named_at-requires
named_at-requires c = search may-name

pub refusal_with-requires : goal.refusal_with-requires
refusal_with-requires c = search toggled-low

pub returns-in-Err : goal.returns-in-Err
returns-in-Err c = search if-refuses

pub returns-then-not-l : goal.returns-then-not-l
returns-then-not-l c = let e = not-true _ c.if-not-l.true in search foul-line

pub returns-then-l-lt8 : goal.returns-then-l-lt8
returns-then-l-lt8 c = let e = not-false _ c.if-not-l.false in search if-opens

pub returns-else-l-lt8 : goal.returns-else-l-lt8
returns-else-l-lt8 c = let e = not-false _ c.if-not-l.false in search if-deep
