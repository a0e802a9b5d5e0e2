-- `charmap_header::opening_line` meets its contract: 2 is told before 3, and CHARMAP must stand alone.
use Rattle.std.proofs.lemmas.Bool.{not-true, not-false}
use Rattle.charmap_header.proofs.EndLaws.{opening-start, opening-bytes, opening-form, opening-good}
use Rattle.charmap_header.proofs.opening_line.Goals as goal

pub line_at-e-requires : goal.line_at-e-requires
line_at-e-requires c = search opening-start

pub returns-then-not-e : goal.returns-then-not-e
returns-then-not-e c = let t = not-true _ c.if-not-e.true in search opening-bytes

pub returns-then-not-is_opening : goal.returns-then-not-is_opening
returns-then-not-is_opening c = let t = not-false _ c.if-not-e.false in search opening-form

pub returns : goal.returns
returns c = let t = not-false _ c.if-not-e.false in search opening-good
