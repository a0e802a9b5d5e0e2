use Rattle.text_tokens.proofs.GapLaws.{blanks-end, blanks-more, blanks-other}
use borrow.Author.Rules.{rules}
use Rattle.text_tokens.proofs.skip_all.Goals as goal

pub loop-r-preserved : goal.loop-r-preserved
loop-r-preserved c = search (blanks-more, c.in-Some-eq32-default.ensures)

pub returns-in_default : goal.returns-in_default
returns-in_default c = blanks-other c.loop-r.invariant {s = c.next_mark.result} c.next_mark.ensures c.in_default.field-0 c.in_default.is (search rules) (search rules)

pub returns-in_default-2 : goal.returns-in_default-2
returns-in_default-2 c = search blanks-end
