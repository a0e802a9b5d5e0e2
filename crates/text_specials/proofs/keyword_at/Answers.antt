-- `text_specials::keyword_at` meets its contract: the word is compared with both.
use mathlib.Core.Path.{sym, ◌∙◌}
use Rattle.rules.specs.Text.{bytes}
use Rattle.rules.proofs.TextLaws.{same_true}
use Rattle.text_specials.proofs.keyword_at.Goals as goal

pub returns-then-word_is : goal.returns-then-word_is
unfolding bytes
returns-then-word_is c = same_true _ _ (sym c.word_is.ensures ∙ c.if-word_is.true)

pub returns-then-word_is-2 : goal.returns-then-word_is-2
unfolding bytes
returns-then-word_is-2 c = same_true _ _ (sym c.word_is-else-word_is.ensures ∙ c.if-word_is-2.true)

pub returns-else-word_is-2 : goal.returns-else-word_is-2
unfolding bytes
returns-else-word_is-2 c = (sym c.word_is.ensures ∙ c.if-word_is.false, sym c.word_is-else-word_is.ensures ∙ c.if-word_is-2.false)
