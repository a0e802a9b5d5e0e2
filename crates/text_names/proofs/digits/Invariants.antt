-- `text_names::digits` meets its contract. The invariant: so many digits are read, and what they make. The measure is what is left of the source.
use Rattle.text_names.proofs.CodeLaws.{Coding}
use Prim.Native.Nat.{◌-◌}
use lib.ListN.{length}
use Rattle.text_names.proofs.digits.Given as goal

abbrev pub invariant-loop-b : goal.invariant-loop-b
invariant-loop-b l = Coding l.src.signs l.src.bytes.now l.initial.q l.q l.n l.x

abbrev pub decreases-loop-b : goal.decreases-loop-b
decreases-loop-b l = length l.src.bytes.now - l.q.at
