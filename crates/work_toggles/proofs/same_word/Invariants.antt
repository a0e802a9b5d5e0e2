-- `work_toggles::same_word` meets its contract. The invariant: the words agree so far. The measure is what is left of the source.
use Rattle.work_toggles.proofs.WordLaws.{Agree}
use Prim.Native.Nat.{◌-◌}
use lib.ListN.{length}
use Rattle.work_toggles.proofs.same_word.Given as goal

abbrev pub invariant-loop-a : goal.invariant-loop-a
invariant-loop-a l = Agree l.src.signs l.src.bytes.now l.initial.i l.initial.j l.i l.j

abbrev pub decreases-loop-a : goal.decreases-loop-a
decreases-loop-a l = length l.src.bytes.now - l.i.at
