-- `locale_standing::weights_left` meets its contract. The invariant: so many operands are passed, and their lowest refusal. The measure is what is left
-- of the source.
use Rattle.locale_standing.proofs.CountLaws.{Counting}
use Rattle.base_units.specs.Numbers.{number_or_none}
use Prim.Native.Nat.{◌-◌}
use lib.ListN.{length}
use Rattle.locale_standing.proofs.weights_left.Given as goal

abbrev pub invariant-loop-f : goal.invariant-loop-f
invariant-loop-f l = Counting l.src.signs l.src.bytes.now l.work l.initial.q l.q (number_or_none l.refusal) l.n

abbrev pub decreases-loop-f : goal.decreases-loop-f
decreases-loop-f l = length l.src.bytes.now - l.q.at
