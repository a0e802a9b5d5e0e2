-- `table_check::all_within` meets its contract. The loop's invariant: all is good exactly if the numbers so far passed.
use Rattle.rules.specs.Text.{within}
use Rattle.table_check.proofs.WithinLaws.{Passing}
use Rattle.table_check.proofs.all_within.Given as goal

abbrev pub invariant-loop-x : goal.invariant-loop-x
invariant-loop-x l = Passing (within l.low l.high) l.numbers l.x-index l.good
