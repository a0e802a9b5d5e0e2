-- `locale_opening::keyword_at` meets its contract: the word is compared with each of a conditional's, then with the others.
use mathlib.Core.Path.{sym, ◌∙◌}
use Rattle.rules.specs.Text.{bytes}
use Rattle.rules.proofs.TextLaws.{same_true}
use Rattle.locale_opening.specs.Keyed.{NotConditional}
use Rattle.locale_opening.proofs.KeywordLaws.{other_text, later-keyword}
use Rattle.locale_opening.proofs.keyword_at.Goals as goal

pub returns-then-word_is : goal.returns-then-word_is
unfolding bytes
returns-then-word_is c = same_true _ _ (sym c.word_is.ensures ∙ c.if-word_is.true)

pub returns-then-word_is-2 : goal.returns-then-word_is-2
unfolding bytes
returns-then-word_is-2 c = same_true _ _ (sym c.word_is-else-word_is.ensures ∙ c.if-word_is-2.true)

pub returns-then-word_is-3 : goal.returns-then-word_is-3
unfolding bytes
returns-then-word_is-3 c = same_true _ _ (sym c.word_is-else-word_is-2.ensures ∙ c.if-word_is-3.true)

pub returns-then-word_is-4 : goal.returns-then-word_is-4
unfolding bytes
returns-then-word_is-4 c = same_true _ _ (sym c.word_is-else-word_is-3.ensures ∙ c.if-word_is-4.true)

pub returns-then-word_is-5 : goal.returns-then-word_is-5
unfolding bytes
returns-then-word_is-5 c = same_true _ _ (sym c.word_is-else-word_is-4.ensures ∙ c.if-word_is-5.true)

pub returns-then-word_is-6 : goal.returns-then-word_is-6
unfolding bytes
returns-then-word_is-6 c = same_true _ _ (sym c.word_is-else-word_is-5.ensures ∙ c.if-word_is-6.true)

pub returns-then-word_is-7 : goal.returns-then-word_is-7
unfolding bytes
returns-then-word_is-7 c = same_true _ _ (sym c.word_is-else-word_is-6.ensures ∙ c.if-word_is-7.true)

pub returns-else-word_is-7 : goal.returns-else-word_is-7
unfolding bytes
returns-else-word_is-7 c =
    let n : NotConditional _ =
    record {
      no-define = other_text "define" _ c.word_is.ensures c.if-word_is.false;
      no-undef = other_text "undef" _ c.word_is-else-word_is.ensures c.if-word_is-2.false;
      no-ifdef = other_text "ifdef" _ c.word_is-else-word_is-2.ensures c.if-word_is-3.false;
      no-ifndef = other_text "ifndef" _ c.word_is-else-word_is-3.ensures c.if-word_is-4.false;
      no-elif = other_text "elif" _ c.word_is-else-word_is-4.ensures c.if-word_is-5.false;
      no-else = other_text "else" _ c.word_is-else-word_is-5.ensures c.if-word_is-6.false;
      no-endif = other_text "endif" _ c.word_is-else-word_is-6.ensures c.if-word_is-7.false;
    } in
    search (later-keyword _ n)
