-- `charmap_coding::write_codes` meets its contract. The loop's invariant: the characters of the bytes before i are written, and the rest of the room is as it was.
use Rattle.rules.specs.Coding.{code_at}
use Rattle.rules.proofs.PutLaws.{Putting}
use Rattle.charmap_coding.proofs.write_codes.Given as goal

abbrev pub invariant-loop-i : goal.invariant-loop-i
invariant-loop-i l = Putting (code_at l.area) l.bytes l.initial.room l.room l.i
