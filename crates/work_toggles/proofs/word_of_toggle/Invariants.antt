-- `work_toggles::word_of_toggle` meets its contract. The invariant: so many bytes of the word are read. The measure is what is left of the source.
use Rattle.work_toggles.proofs.WordLaws.{InToggle}
use Prim.Native.Nat.{◌-◌}
use lib.ListN.{length}
use Rattle.work_toggles.proofs.word_of_toggle.Given as goal

abbrev pub invariant-loop-b : goal.invariant-loop-b
invariant-loop-b l = InToggle l.src.signs l.src.bytes.now l.initial.q l.q l.n l.clean

abbrev pub decreases-loop-b : goal.decreases-loop-b
decreases-loop-b l = length l.src.bytes.now - l.q.at
