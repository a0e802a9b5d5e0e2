-- `table_items::write_items` meets its contract. The invariant: what stands in the area, with the items of the lines that are left, is the whole.
use Prim.Native.Nat.{◌-◌}
use Rattle.table_items.proofs.FillLaws.{Writing}
use Rattle.table_items.proofs.write_items.Given as goal

abbrev pub invariant-loop : goal.invariant-loop
invariant-loop l =
    Writing l.src.signs l.src.bytes.now l.work l.levels l.initial.area l.slots l.from l.base l.initial.v l.area l.v (l.fn.o.count - l.counter) l.slot l.place l.next
