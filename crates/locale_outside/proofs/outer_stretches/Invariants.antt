-- `locale_outside::outer_stretches` meets its contract. The loop's invariant: the reader stands where the reading of the lines has come to. The measure is what is left of the source.
use Prim.Native.Nat.{◌-◌}
use lib.ListN.{length}
use Rattle.text_reader.proofs.HeldLaws.{IsHeld}
use Rattle.locale_outside.specs.Stretches.{stretch_reading}
use Rattle.locale_outside.proofs.outer_stretches.Given as goal

abbrev pub invariant-loop-q : goal.invariant-loop-q
invariant-loop-q l = IsHeld stretch_reading l.src l.fn.s l.t l.q.src.now l.q.at l.q.number

abbrev pub decreases-loop-q : goal.decreases-loop-q
decreases-loop-q l = length l.src - l.q.at
