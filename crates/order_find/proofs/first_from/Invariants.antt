-- `order_find::first_from` meets its contract. The loop's invariant: the items listed before lo come before the key, the one listed at hi does not, and those
-- between stand in the key's bucket. The measure is hi - lo.
use Prim.Native.Nat.{◌-◌}
use Rattle.rules.specs.Table.{meaning_in}
use Rattle.order_find.specs.Search.{numbers_of}
use Rattle.order_find.proofs.SearchLaws.{Halving}
use Rattle.order_find.proofs.first_from.Given as goal

abbrev pub invariant-loop-lo : goal.invariant-loop-lo
invariant-loop-lo l = Halving (meaning_in l.t).items l.items (numbers_of l.key) l.lo l.hi

abbrev pub decreases-loop-lo : goal.decreases-loop-lo
decreases-loop-lo l = l.hi - l.lo
