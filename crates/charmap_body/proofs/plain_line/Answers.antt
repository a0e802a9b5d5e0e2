-- `charmap_body::plain_line` meets its contract: by what the line is, and whether its bytes are text.
use Rattle.charmap_body.proofs.PlainLaws.{plain-blank, plain_end, plain-end-bad, plain_other, plain-other-bad}
use Rattle.charmap_body.proofs.plain_line.Goals as goal

pub returns-in-Blank : goal.returns-in-Blank
returns-in-Blank c = search plain-blank

pub returns-then-e : goal.returns-then-e
returns-then-e c = search plain_end

pub returns-else-e : goal.returns-else-e
returns-else-e c = search plain-end-bad

pub returns-then-e-2 : goal.returns-then-e-2
returns-then-e-2 c = search plain_other

pub returns-else-e-2 : goal.returns-else-e-2
returns-else-e-2 c = search plain-other-bad
