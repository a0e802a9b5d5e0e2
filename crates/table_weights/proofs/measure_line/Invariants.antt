-- `table_weights::measure_line` meets its contract. The invariant: the levels passed are counted, and tested.
use Prim.Native.Nat.{◌-◌}
use Rattle.table_weights.proofs.MeasureLaws.{Measuring}
use Rattle.table_weights.proofs.measure_line.Given as goal

abbrev pub invariant-loop : goal.invariant-loop
invariant-loop l = Measuring l.src.signs l.src.bytes.now l.work l.place l.levels l.own.0 l.c (l.levels - l.counter) l.weights l.ranked
