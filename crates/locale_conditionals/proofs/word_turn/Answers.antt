-- `locale_conditionals::word_turn` meets its contract: the word is compared with each of the three.
use mathlib.Core.Path.{sym, ◌∙◌}
use Rattle.rules.specs.Text.{bytes}
use Rattle.rules.proofs.TextLaws.{same_true}
use Rattle.locale_conditionals.proofs.LineLaws.{key-line, key-turn, no_key}
use Rattle.locale_conditionals.proofs.word_turn.Goals as goal

pub elif_line-requires : goal.elif_line-requires
unfolding bytes
elif_line-requires c =
    key-turn c.requires (same_true _ _ (sym c.word_is.ensures ∙ c.if-word_is.true))

pub else_line-requires : goal.else_line-requires
unfolding bytes
else_line-requires c = key-line c.requires (same_true _ _ (sym c.word_is-else-word_is.ensures ∙ c.if-word_is-2.true))

pub returns-then-word_is-2 : goal.returns-then-word_is-2
returns-then-word_is-2 c = c.else_line.ensures _

pub endif_line-requires : goal.endif_line-requires
unfolding bytes
endif_line-requires c = key-line c.requires (same_true _ _ (sym c.word_is-else-word_is-2.ensures ∙ c.if-word_is-3.true))

pub returns-then-word_is-3 : goal.returns-then-word_is-3
returns-then-word_is-3 c = c.endif_line.ensures _

pub returns-else-word_is-3 : goal.returns-else-word_is-3
unfolding bytes
returns-else-word_is-3 c =
    no_key c.requires _ _ _ c.word_is.ensures c.if-word_is.false c.word_is-else-word_is.ensures c.if-word_is-2.false c.word_is-else-word_is-2.ensures c.if-word_is-3.false c.malformed.ensures
