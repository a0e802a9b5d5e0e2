-- `order_find::shared` meets its contract. The loop's invariant: the first n numbers are the same.
use Rattle.order_find.proofs.KeyLaws.{Sharing}
use Rattle.order_find.proofs.shared.Given as goal

abbrev pub invariant-loop-n : goal.invariant-loop-n
invariant-loop-n l = Sharing l.t l.from l.s l.at l.n
