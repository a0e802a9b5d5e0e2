-- `text_names::short_code` meets its contract: a law for each answer.
use Rattle.text_names.proofs.ShapeLaws.{short-is, short-open, short-foul}
use Rattle.text_names.proofs.short_code.Goals.{else-w-x-eq0-via-then-w-x-eq0+else-close-eq62, else-w-x-eq0-via-else-w-x-eq0}
use Rattle.text_names.proofs.short_code.Goals as goal

pub returns-then-close-eq62 : goal.returns-then-close-eq62
returns-then-close-eq62 c = search short-is

pub returns-else-w-x-eq0 : goal.returns-else-w-x-eq0
returns-else-w-x-eq0 c = elim c.else-w-x-eq0.branch [
  | else-w-x-eq0-via-then-w-x-eq0+else-close-eq62 w ↦ search short-open
  | else-w-x-eq0-via-else-w-x-eq0 w ↦ search short-foul
]
