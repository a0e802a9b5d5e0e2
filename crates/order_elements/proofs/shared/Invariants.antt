-- `order_elements::shared` meets its contract. The loop's invariant: the first n characters are the same.
use Rattle.order_elements.proofs.CommonLaws.{Matching}
use Rattle.order_elements.proofs.shared.Given as goal

abbrev pub invariant-loop-n : goal.invariant-loop-n
invariant-loop-n l = Matching l.a l.i l.b l.j l.end l.n
