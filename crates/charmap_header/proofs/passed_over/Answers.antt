-- `charmap_header::passed_over` meets its contract: the line's end is that of the plain line.
use Rattle.charmap_header.proofs.EndLaws.{passed_start, passed-line}
use Rattle.charmap_header.proofs.passed_over.Goals as goal

pub line_at-e-requires : goal.line_at-e-requires
line_at-e-requires c = search passed_start

pub returns : goal.returns
returns c = search passed-line
