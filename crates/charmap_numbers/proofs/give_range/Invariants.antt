-- `charmap_numbers::give_range` meets its contract. The loop's invariant: giving the bytes that are left leads to what giving all would.
use Rattle.charmap_numbers.proofs.SeekLaws.{Ranging}
use Rattle.charmap_numbers.proofs.give_range.Given as goal

abbrev pub invariant-loop-i : goal.invariant-loop-i
invariant-loop-i l = Ranging l.initial.area l.byte l.first l.n l.area l.i
