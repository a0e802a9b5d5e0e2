-- `table_check::ends_pass` meets its contract. The loop's invariant: all is good exactly if the ends so far passed.
use Rattle.table_check.proofs.EndLaws.{Ending}
use Rattle.table_check.proofs.ends_pass.Given as goal

abbrev pub invariant-loop-end : goal.invariant-loop-end
invariant-loop-end l = Ending l.ends l.weights l.end-index l.last l.good
