-- `order_compare::compare_codes` meets its contract. The loop's invariant: the first i characters agree, and those from i on decide.
use Rattle.order_compare.proofs.CodeLaws.{Coding}
use Rattle.order_compare.proofs.compare_codes.Given as goal

abbrev pub invariant-loop-i : goal.invariant-loop-i
invariant-loop-i l = Coding l.a l.b l.i
