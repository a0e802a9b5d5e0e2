use Rattle.rules.specs.Text.{bytes, is}
use Rattle.locale_skips.proofs.BranchLaws.{kind-closes, kind-branches, kind-other}
use Rattle.locale_skips.proofs.line_kind.Goals as goal

pub returns-then-first_word_is : goal.returns-then-first_word_is
unfolding bytes is
returns-then-first_word_is c = kind-closes _ c.opens.ensures c.if-opens.false c.first_word_is.ensures c.if-first_word_is.true

pub returns-then-branches : goal.returns-then-branches
unfolding bytes is
returns-then-branches c = kind-branches _ c.opens.ensures c.if-opens.false c.first_word_is.ensures c.if-first_word_is.false c.branches.ensures c.if-branches.true

pub returns-else-branches : goal.returns-else-branches
unfolding bytes is
returns-else-branches c = kind-other _ c.opens.ensures c.if-opens.false c.first_word_is.ensures c.if-first_word_is.false c.branches.ensures c.if-branches.false
