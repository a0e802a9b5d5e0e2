-- `order_keys::put_later` meets its contract. The loop's invariant: the weights from the i-th number on are still to be written.
use Rattle.order_keys.proofs.ElementLaws.{Later}
use Rattle.order_keys.proofs.put_later.Given as goal

abbrev pub invariant-loop-i : goal.invariant-loop-i
invariant-loop-i l = Later l.t l.from l.end l.position l.initial.room l.at l.room l.i l.next
