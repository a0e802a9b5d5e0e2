-- `table_layout::mask_for` meets its contract. The loop keeps the definition's own doubling.
use Rattle.table_layout.proofs.BucketLaws.{Grown}
use Rattle.table_layout.proofs.mask_for.Given as goal

abbrev pub invariant-loop : goal.invariant-loop
invariant-loop l = Grown l.items l.p l.counter
