-- `charmap_read::header_lines` meets its contract. The invariant: the run goes on from the line that the reader stands at. The measure is what is left of
-- the source.
use Prim.Native.Nat.{◌-◌}
use lib.ListN.{length}
use Rattle.charmap_read.specs.Read.{Heads}
use Rattle.text_reader.proofs.HoldsLaws.{Held}
use Rattle.charmap_read.proofs.header_lines.Given as goal

abbrev pub invariant-loop-h : goal.invariant-loop-h
invariant-loop-h l = Held (Heads l.src l.h) l.src l.q.src.now l.q.at l.q.number

abbrev pub decreases-loop-h : goal.decreases-loop-h
decreases-loop-h l = length l.src - l.q.at
