-- `text_lines::next_mark` meets its contract. The invariant: only joins are passed. The measure is what is left of the source.
use Rattle.text_lines.proofs.WalkLaws.{Joined}
use Prim.Native.Nat.{◌-◌}
use lib.ListN.{length}
use Rattle.text_lines.proofs.next_mark.Given as goal

abbrev pub invariant-loop-m : goal.invariant-loop-m
invariant-loop-m l = Joined l.src.signs l.src.bytes.now l.initial.q l.q

abbrev pub decreases-loop-m : goal.decreases-loop-m
decreases-loop-m l = length l.src.bytes.now - l.q.at
