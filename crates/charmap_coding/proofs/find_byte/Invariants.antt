-- `charmap_coding::find_byte` meets its contract. The loop's invariant: no byte before i encodes the code, so that those from i on decide.
use Rattle.charmap_coding.proofs.ByteLaws.{Finding}
use Rattle.charmap_coding.proofs.find_byte.Given as goal

abbrev pub invariant-loop-i : goal.invariant-loop-i
invariant-loop-i l = Finding l.codes l.ones l.c l.i
