-- `charmap_header::malformed` meets its contract: 2 is told before 3.
use Rattle.charmap_header.proofs.EndLaws.{malformed-start, malformed-form, malformed-bytes}
use Rattle.charmap_header.proofs.malformed.Goals as goal

pub line_at-e-requires : goal.line_at-e-requires
line_at-e-requires c = search malformed-start

pub returns-then-e : goal.returns-then-e
returns-then-e c = search malformed-form

pub returns-else-e : goal.returns-else-e
returns-else-e c = search malformed-bytes
