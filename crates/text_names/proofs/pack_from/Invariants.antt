-- `text_names::pack_from` meets its contract. The invariant: what the bytes so far make of the hash and of the numbers. The measure is what is left of the source.
use Rattle.text_names.proofs.PackLaws.{Packing}
use Prim.Native.Nat.{◌-◌}
use lib.ListN.{length}
use Rattle.text_names.proofs.pack_from.Given as goal

abbrev pub invariant-loop-b : goal.invariant-loop-b
invariant-loop-b l = Packing l.src.signs l.src.bytes.now l.initial.q l.q l.initial.key l.key l.initial.h l.h l.initial.n l.n

abbrev pub decreases-loop-b : goal.decreases-loop-b
decreases-loop-b l = length l.src.bytes.now - l.q.at
