-- `charmap_read::empty` meets its contract. The loop's invariant: the first i numbers are those of no code, the others zero. The measure is how many are left.
use Rattle.charmap_read.proofs.EmptyLaws.{Filled}
use Rattle.charmap_read.proofs.empty.Given as goal

abbrev pub invariant-loop-i : goal.invariant-loop-i
invariant-loop-i l = Filled l.area l.i
