-- `table_records::write_line` meets its contract. The invariant: the weights of the levels from slot on are still to be written.
use Prim.Native.Nat.{◌+◌, ◌-◌}
use Rattle.table_records.proofs.LineLaws.{Filling}
use Rattle.table_records.proofs.write_line.Given as goal

abbrev pub invariant-loop-slot : goal.invariant-loop-slot
invariant-loop-slot l =
    Filling l.src.signs l.src.bytes.now l.work l.place l.levels l.own.0 l.initial.area l.slots l.base l.at l.area l.c (l.slots + l.levels - l.slot) l.slot l.next
