-- `charmap_read::body_lines` meets its contract. The invariant: the area holds what the lines so far give, and the run goes on from the line that the
-- reader stands at. The measure is what is left of the source.
use Prim.Native.Nat.{◌-◌}
use lib.ListN.{length}
use Rattle.charmap_read.specs.Read.{Reads}
use Rattle.text_reader.proofs.HoldsLaws.{Held}
use Rattle.charmap_read.proofs.body_lines.Given as goal

abbrev pub invariant-loop-signs : goal.invariant-loop-signs
invariant-loop-signs l = Held (Reads l.src l.fn.h l.fn.from l.fn.first l.area) l.src l.q.src.now l.q.at l.q.number

abbrev pub decreases-loop-signs : goal.decreases-loop-signs
decreases-loop-signs l = length l.src - l.q.at
