-- `order_keys::add_counts` meets its contract. The loop's invariant: the weights of the levels before the present one are added, the other numbers are as they were.
use Rattle.order_keys.proofs.CountLaws.{Adding}
use Rattle.order_keys.proofs.add_counts.Given as goal

abbrev pub invariant-loop-level : goal.invariant-loop-level
invariant-loop-level l = Adding l.t l.place l.initial.counts l.counts l.level
