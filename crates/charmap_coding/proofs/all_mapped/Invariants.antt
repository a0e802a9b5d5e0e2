-- `charmap_coding::all_mapped` meets its contract. The loop's invariant: the bytes so far have a character, so that the others decide.
use Rattle.charmap_coding.proofs.DecodeLaws.{Mapped}
use Rattle.charmap_coding.proofs.all_mapped.Given as goal

abbrev pub invariant-loop-b : goal.invariant-loop-b
invariant-loop-b l = Mapped l.area l.bytes l.b-index
