-- `charmap_coding::count_ones` meets its contract. The loop's invariant: the table has how often each code has a 1 from i on.
use Rattle.charmap_coding.proofs.CountLaws.{Counting}
use Rattle.charmap_coding.proofs.count_ones.Given as goal

abbrev pub invariant-loop-i : goal.invariant-loop-i
invariant-loop-i l = Counting l.codes l.ones l.initial.counts l.counts l.i
