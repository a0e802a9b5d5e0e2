-- `text_lines::is_ordinary` meets its contract: past the other tests, the byte is ordinary where it is not the escape.
use borrow.Author.Rules.{rules}
use Rattle.text_lines.proofs.is_ordinary.Goals as goal

pub returns-then-not-matches : goal.returns-then-not-matches
returns-then-not-matches c = search rules
