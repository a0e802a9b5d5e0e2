-- `order_keys::count_entries` meets its contract. The loop's invariant: the entries counted and those of the elements from a place on are all of the level's, at each level. The measure is how many characters are left.
use Prim.Native.Nat.{◌-◌}
use lib.ListN.{length}
use Rattle.order_keys.proofs.CountLaws.{Counting}
use Rattle.order_keys.proofs.count_entries.Given as goal

abbrev pub invariant-loop-at : goal.invariant-loop-at
invariant-loop-at l = Counting l.t l.s l.initial.counts l.counts l.at

abbrev pub decreases-loop-at : goal.decreases-loop-at
decreases-loop-at l = length l.s - l.at
