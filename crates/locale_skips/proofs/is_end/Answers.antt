-- `locale_skips::is_end` meets its contract: it has two words, END and the name.
use Rattle.rules.specs.Text.{bytes}
use Rattle.locale_skips.specs.Passing.{is_end}
use borrow.Author.Rules.{rules}
use Rattle.locale_skips.proofs.is_end.Goals as goal

pub returns : goal.returns
unfolding bytes is_end
returns c = search rules
