-- `order_find::search` meets its contract. The loop's invariant: no item that begins at the place has more than `size` characters. The measure is `size`.
use Rattle.order_find.proofs.LookLaws.{Seeking}
use Rattle.order_find.proofs.search.Given as goal

abbrev pub invariant-loop-size : goal.invariant-loop-size
invariant-loop-size l = Seeking l.t l.s l.at l.chars l.n l.size

abbrev pub decreases-loop-size : goal.decreases-loop-size
decreases-loop-size l = l.size
