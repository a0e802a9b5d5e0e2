-- `locale_levels::symbol_at` meets its contract: the word is compared with each.
use Rattle.locale_levels.proofs.MachineLaws.{symbol-comma, symbol-other, symbol-forward, symbol-backward, symbol-position, symbol-none}
use Rattle.rules.specs.Text.{bytes}
use Rattle.locale_levels.proofs.symbol_at.Goals as goal

pub returns-then-t-eq-COMMA : goal.returns-then-t-eq-COMMA
returns-then-t-eq-COMMA c = search symbol-comma

pub returns-then-t-ne-WORD : goal.returns-then-t-ne-WORD
returns-then-t-ne-WORD c = search symbol-other

pub returns-then-word_is : goal.returns-then-word_is
unfolding bytes
returns-then-word_is c = search symbol-forward

pub returns-then-word_is-2 : goal.returns-then-word_is-2
unfolding bytes
returns-then-word_is-2 c = search symbol-backward

pub returns-then-word_is-3 : goal.returns-then-word_is-3
unfolding bytes
returns-then-word_is-3 c = search symbol-position

pub returns : goal.returns
unfolding bytes
returns c = search symbol-none
