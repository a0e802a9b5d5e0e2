-- `text_names::pack_inside` meets its contract. The invariant: what the bytes so far make of the hash and of the numbers, which are the name's own. The measure is what is left of the source.
use Rattle.text_names.proofs.PackLaws.{Packing}
use Rattle.text_lines.proofs.LineLaws.{spot}
use Prim.Native.Nat.{◌-◌}
use lib.ListN.{length}
use Rattle.text_names.proofs.pack_inside.Given as goal

abbrev pub invariant-loop-b : goal.invariant-loop-b
invariant-loop-b l = Packing l.src.signs l.src.bytes.now l.p (spot l.at l.p.mode l.fresh) l.initial.key l.key 0 l.h 0 l.n

abbrev pub decreases-loop-b : goal.decreases-loop-b
decreases-loop-b l = length l.src.bytes.now - l.at
