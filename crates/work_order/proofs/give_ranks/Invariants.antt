-- `work_order::give_ranks` meets its contract. The loop's invariant: the lines that are left get the ranks that are left.
use Rattle.work_order.proofs.RankLaws.{Ranking}
use Rattle.work_order.proofs.give_ranks.Given as goal

abbrev pub invariant-loop-before : goal.invariant-loop-before
invariant-loop-before l = Ranking l.initial.work l.fn.o l.work l.v l.before
