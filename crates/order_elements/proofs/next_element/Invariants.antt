-- `order_elements::next_element` meets its contract. The loop's invariant: what was to come is what the string from i on gives, with the n elements before it counted, and the string is cut up to i. The measure is how many characters are left.
use Rattle.order_elements.proofs.FirstLaws.{Passing}
use Prim.Native.Nat.{◌-◌}
use lib.ListN.{length}
use Rattle.order_elements.proofs.next_element.Given as goal

abbrev pub invariant-loop-i : goal.invariant-loop-i
invariant-loop-i l = Passing l.t l.s l.initial.places l.position l.fn.c.at l.fn.c.skipped l.places l.i l.k l.n

abbrev pub decreases-loop-i : goal.decreases-loop-i
decreases-loop-i l = length l.s - l.i
