-- `order_compare::compare_from` meets its contract. The loop's invariant: the answer asked for is that from level k on, with the entries that agreed before it.
use Rattle.order_compare.proofs.LevelLaws.{Levels}
use Rattle.order_compare.proofs.compare_from.Given as goal

abbrev pub invariant-loop-k : goal.invariant-loop-k
invariant-loop-k l = Levels l.t l.a l.b l.levels l.level l.agreed l.k l.n
