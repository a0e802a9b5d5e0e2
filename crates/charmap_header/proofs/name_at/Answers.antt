-- `charmap_header::name_at` meets its contract: the name is compared with both.
use mathlib.Core.Path.{sym, ◌∙◌}
use Rattle.rules.specs.Text.{bytes}
use Rattle.rules.proofs.TextLaws.{same_true}
use Rattle.charmap_header.proofs.name_at.Goals as goal

pub returns-then-name_is : goal.returns-then-name_is
unfolding bytes
returns-then-name_is c = same_true _ _ (sym c.name_is.ensures ∙ c.if-name_is.true)

pub returns-then-name_is-2 : goal.returns-then-name_is-2
unfolding bytes
returns-then-name_is-2 c = same_true _ _ (sym c.name_is-else-name_is.ensures ∙ c.if-name_is-2.true)

pub returns-else-name_is-2 : goal.returns-else-name_is-2
unfolding bytes
returns-else-name_is-2 c = (sym c.name_is.ensures ∙ c.if-name_is.false, sym c.name_is-else-name_is.ensures ∙ c.if-name_is-2.false)
