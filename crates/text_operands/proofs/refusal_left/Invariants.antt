-- `text_operands::refusal_left` meets its contract. The invariant: the lowest refusal of the operands that are passed. The measure is what is left of
-- the source.
use Rattle.text_operands.proofs.LoweredLaws.{Lowered}
use Prim.Native.Nat.{◌-◌}
use lib.ListN.{length}
use Rattle.text_operands.proofs.refusal_left.Given as goal

abbrev pub invariant-loop-t : goal.invariant-loop-t
invariant-loop-t l = Lowered l.src.signs l.src.bytes.now l.initial.held l.initial.q l.q l.held l.refusal

abbrev pub decreases-loop-t : goal.decreases-loop-t
decreases-loop-t l = length l.src.bytes.now - l.q.at
