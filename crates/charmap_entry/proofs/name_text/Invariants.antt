-- `charmap_entry::name_text` meets its contract. The invariant: the bytes so far are text. The measure is what is left of the source.
use Prim.Native.Nat.{◌-◌}
use lib.ListN.{length}
use Rattle.charmap_entry.proofs.HeadLaws.{Clean}
use Rattle.charmap_entry.proofs.name_text.Given as goal

abbrev pub invariant-loop-b : goal.invariant-loop-b
invariant-loop-b l = Clean l.src.signs l.src.bytes.now l.initial.q l.q

abbrev pub decreases-loop-b : goal.decreases-loop-b
decreases-loop-b l = length l.src.bytes.now - l.q.at
