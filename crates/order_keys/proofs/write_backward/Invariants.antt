-- `order_keys::write_backward` meets its contract. The loop's invariant: the elements from the i-th character on are still to be cut, and of those before it all but the last that has a weight are written. The measure is how many characters are left.
use Prim.Native.Nat.{◌-◌}
use lib.ListN.{length}
use Rattle.order_keys.proofs.BackwardLaws.{Backward}
use Rattle.order_keys.proofs.write_backward.Given as goal

abbrev pub invariant-loop-i : goal.invariant-loop-i
invariant-loop-i l = Backward l.t l.s l.level l.position l.initial.room l.initial.from l.room l.from l.last l.behind l.i

abbrev pub decreases-loop-i : goal.decreases-loop-i
decreases-loop-i l = length l.s - l.i
