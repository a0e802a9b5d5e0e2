-- `locale_opening::later_at` meets its contract: the word is compared with each.
use mathlib.Core.Path.{sym, ◌∙◌}
use Rattle.rules.specs.Text.{bytes}
use Rattle.rules.proofs.TextLaws.{same_true}
use Rattle.locale_opening.proofs.KeywordLaws.{other_text}
use Rattle.locale_opening.proofs.later_at.Goals as goal

pub returns-then-word_is : goal.returns-then-word_is
unfolding bytes
returns-then-word_is c = same_true _ _ (sym c.word_is.ensures ∙ c.if-word_is.true)

pub returns-then-word_is-2 : goal.returns-then-word_is-2
unfolding bytes
returns-then-word_is-2 c = same_true _ _ (sym c.word_is-else-word_is.ensures ∙ c.if-word_is-2.true)

pub returns-then-word_is-3 : goal.returns-then-word_is-3
unfolding bytes
returns-then-word_is-3 c = same_true _ _ (sym c.word_is-else-word_is-2.ensures ∙ c.if-word_is-3.true)

pub returns-then-word_is-4 : goal.returns-then-word_is-4
unfolding bytes
returns-then-word_is-4 c = same_true _ _ (sym c.word_is-else-word_is-3.ensures ∙ c.if-word_is-4.true)

pub returns-then-word_is-5 : goal.returns-then-word_is-5
unfolding bytes
returns-then-word_is-5 c = same_true _ _ (sym c.word_is-else-word_is-4.ensures ∙ c.if-word_is-5.true)

pub returns-then-word_is-6 : goal.returns-then-word_is-6
unfolding bytes
returns-then-word_is-6 c = same_true _ _ (sym c.word_is-else-word_is-5.ensures ∙ c.if-word_is-6.true)

pub returns-then-word_is-7 : goal.returns-then-word_is-7
unfolding bytes
returns-then-word_is-7 c = same_true _ _ (sym c.word_is-else-word_is-6.ensures ∙ c.if-word_is-7.true)

pub returns-then-word_is-8 : goal.returns-then-word_is-8
unfolding bytes
returns-then-word_is-8 c = same_true _ _ (sym c.word_is-else-word_is-7.ensures ∙ c.if-word_is-8.true)

pub returns-else-word_is-8 : goal.returns-else-word_is-8
unfolding bytes
returns-else-word_is-8 c =
    record {
      no-symbol = search (other_text "collating-symbol");
      no-element = search (other_text "collating-element");
      no-order-start = search (other_text "order_start");
      no-order-end = search (other_text "order_end");
      no-undefined = search (other_text "UNDEFINED");
      no-reorder-after = search (other_text "reorder-after");
      no-reorder-end = search (other_text "reorder-end");
      no_end = search (other_text "END");
    }
