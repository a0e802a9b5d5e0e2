-- `table_items::measure_lines` meets its contract. The invariant: what the lines passed give is counted, and of those with a weight that has no rank the
-- least number is kept.
use Prim.Native.Nat.{◌-◌}
use Rattle.table_items.proofs.SumLaws.{Summing}
use Rattle.table_items.proofs.measure_lines.Given as goal

abbrev pub invariant-loop : goal.invariant-loop
invariant-loop l =
    Summing l.src.signs l.src.bytes.now l.work l.levels l.initial.v l.fn.o.count l.v (l.fn.o.count - l.counter) l.items l.weights l.whole l.line
