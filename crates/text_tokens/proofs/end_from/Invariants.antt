-- `text_tokens::end_from` meets its contract. The invariant: so many bytes of the name are read from the first spot on. The measure is what is left of the source.
use Rattle.text_tokens.proofs.NameLaws.{InName}
use Prim.Native.Nat.{◌-◌}
use lib.ListN.{length}
use Rattle.text_tokens.proofs.end_from.Given as goal

abbrev pub invariant-loop-b : goal.invariant-loop-b
invariant-loop-b l = InName l.src.signs l.src.bytes.now l.initial.q l.q l.n l.visible

abbrev pub decreases-loop-b : goal.decreases-loop-b
decreases-loop-b l = length l.src.bytes.now - l.q.at
