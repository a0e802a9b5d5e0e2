-- `locale_source::lines_in` meets its contract: a law for each answer.
use Rattle.locale_source.proofs.SourceLaws.{inside-refused, after-begins, inside-after}
use borrow.Author.Rules.{rules}
use Rattle.locale_source.proofs.lines_in.Goals as goal

pub lines_after-requires : goal.lines_after-requires
lines_after-requires c = (search after-begins, search rules)

pub returns-in-Ok : goal.returns-in-Ok
returns-in-Ok c = search inside-after

pub returns-in-Err : goal.returns-in-Err
returns-in-Err c = search inside-refused
