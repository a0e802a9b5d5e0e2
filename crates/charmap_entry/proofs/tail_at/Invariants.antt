-- `charmap_entry::tail_at` meets its contract. The invariant: only joins are passed. The measure is what is left of the source.
use Prim.Native.Nat.{◌-◌}
use lib.ListN.{length}
use Rattle.charmap_entry.specs.Entered.{Passed}
use Rattle.charmap_entry.proofs.tail_at.Given as goal

abbrev pub invariant-loop-i : goal.invariant-loop-i
invariant-loop-i l = Passed l.src.signs l.src.bytes.now l.at l.i

abbrev pub decreases-loop-i : goal.decreases-loop-i
decreases-loop-i l = length l.src.bytes.now - l.i
