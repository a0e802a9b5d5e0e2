-- `locale_skips::branches` meets its contract: one of two words.
use Rattle.rules.specs.Text.{bytes, is}
use Rattle.locale_skips.proofs.BranchLaws.{either_first, either_second}
use Rattle.locale_skips.proofs.branches.Goals as goal

pub returns-then-first_word_is : goal.returns-then-first_word_is
unfolding bytes is
returns-then-first_word_is c = either_first _ c.first_word_is.ensures c.if-first_word_is.true c.if-first_word_is.true

pub returns-else-first_word_is : goal.returns-else-first_word_is
unfolding bytes is
returns-else-first_word_is c = either_second c.first_word_is.ensures c.if-first_word_is.false c.first_word_is-else-first_word_is.ensures
