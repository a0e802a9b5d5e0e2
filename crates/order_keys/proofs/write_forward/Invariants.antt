-- `order_keys::write_forward` meets its contract. The loop's invariant: the bytes of the elements from the i-th character on, and 00 00, are still to be written. The measure is how many characters are left.
use Prim.Native.Nat.{◌-◌}
use lib.ListN.{length}
use Rattle.order_keys.proofs.ForwardLaws.{Forward}
use Rattle.order_keys.proofs.write_forward.Given as goal

abbrev pub invariant-loop-i : goal.invariant-loop-i
invariant-loop-i l = Forward l.t l.s l.level l.position l.initial.room l.at l.room l.i l.skipped l.next

abbrev pub decreases-loop-i : goal.decreases-loop-i
decreases-loop-i l = length l.s - l.i
