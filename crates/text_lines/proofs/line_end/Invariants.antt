-- `text_lines::line_end` meets its contract. The invariant: what is passed so far, and what is to come, make up the line. The measure is what
-- is left of the source.
use Rattle.text_lines.proofs.WalkLaws.{Reads, left_at}
use Rattle.text_lines.proofs.line_end.Given as goal

abbrev pub invariant-loop-m : goal.invariant-loop-m
invariant-loop-m l = Reads l.src.signs l.src.bytes.now l.initial.q l.q l.feeds l.text

abbrev pub decreases-loop-m : goal.decreases-loop-m
decreases-loop-m l = left_at l.src.bytes.now l.q
