-- `order_elements::compare_first` meets its contract. The loop's invariant: the run over what both walks have still to come, with the entries passed, is the run over the whole first levels. The measure is how many entries the first walk has still to come.
use Rattle.order_elements.proofs.CompareLaws.{Comparing}
use lib.ListN.{length}
use Rattle.order_elements.specs.Firsts.{entries_left}
use Rattle.order_elements.proofs.compare_first.Given as goal

abbrev pub invariant-loop-n : goal.invariant-loop-n
invariant-loop-n l = Comparing l.t l.a l.b l.initial.first l.initial.second l.first l.second l.position l.x l.y l.agreed

abbrev pub decreases-loop-n : goal.decreases-loop-n
decreases-loop-n l = length (entries_left l.t l.a l.position l.x)
