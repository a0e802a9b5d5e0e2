-- `text_names::shape_at` meets its contract: a law for each answer.
use Rattle.text_names.proofs.ShapeLaws.{shape-escape, shape-few, shape-short, shape-other, shape-unclear}
use Rattle.text_names.proofs.shape_at.Goals.{then-not-is_apart-via-then-not-is_apart, then-not-is_apart-via-else-not-is_apart+then-src-at-lt6}
use Rattle.text_names.proofs.shape_at.Goals as goal

pub returns-then-not-is_apart : goal.returns-then-not-is_apart
returns-then-not-is_apart c = elim c.then-not-is_apart.branch [
  | then-not-is_apart-via-then-not-is_apart w ↦ search shape-escape
  | then-not-is_apart-via-else-not-is_apart+then-src-at-lt6 w ↦ search shape-few
]

pub returns-then-u-eq85 : goal.returns-then-u-eq85
returns-then-u-eq85 c = search shape-short

pub returns-then-stands : goal.returns-then-stands
returns-then-stands c = search shape-other

pub returns-else-stands : goal.returns-else-stands
returns-else-stands c = search shape-unclear
