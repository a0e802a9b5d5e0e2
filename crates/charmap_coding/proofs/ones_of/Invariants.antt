-- `charmap_coding::ones_of` meets its contract. The loop's invariant: sum is what stands before i at the code, at most 1 for each place.
use Rattle.charmap_coding.proofs.OnesLaws.{Summing}
use Rattle.charmap_coding.proofs.ones_of.Given as goal

abbrev pub invariant-loop-i : goal.invariant-loop-i
invariant-loop-i l = Summing l.codes l.ones l.c l.sum l.i
