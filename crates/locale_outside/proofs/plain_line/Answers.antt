-- `locale_outside::plain_line` meets its contract: a law for each answer.
use Rattle.std.proofs.Common.{◌≡◌, Some}
use borrow.Author.Tests.{not-true, not-false}
use Rattle.locale_outside.proofs.PlainLaws.{plain-blank, plain-refused, plain-foul, plain-category}
use Rattle.locale_outside.proofs.plain_line.Goals as goal

pub returns-in-None : goal.returns-in-None
returns-in-None c = λ before. search plain-blank

pub returns-in-Some : goal.returns-in-Some
returns-in-Some c = λ before. let f = not-true _ c.if-not-e.true in search plain-foul

pub returns-in-Some-3 : goal.returns-in-Some-3
returns-in-Some-3 c = λ before.
    let e : c.next_mark.result ≡ Some c.in-Some-3.field-0 = c.in-Some-3.is in
    let f = not-false _ c.if-not-e.false in
    plain-refused c.requires c.line_end-e.ensures c.skip_gaps-q.ensures c.next_mark.ensures e f c.category_alone.ensures c.if-category_alone.false
