-- `table_check::characters_pass` meets its contract. The loop's invariant: the numbers so far are characters, so that the others decide.
use Rattle.table_check.proofs.CharLaws.{Characters}
use Rattle.table_check.proofs.characters_pass.Given as goal

abbrev pub invariant-loop-i : goal.invariant-loop-i
invariant-loop-i l = Characters l.numbers l.i
