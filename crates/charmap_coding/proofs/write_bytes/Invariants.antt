-- `charmap_coding::write_bytes` meets its contract. The loop's invariant: the bytes of the characters before i are written, and the rest of the room is as it was.
use Rattle.rules.specs.Coding.{byte_at}
use Rattle.rules.proofs.PutLaws.{Putting}
use Rattle.charmap_coding.proofs.write_bytes.Given as goal

abbrev pub invariant-loop-i : goal.invariant-loop-i
invariant-loop-i l = Putting (byte_at l.area) l.s l.initial.room l.room l.i
