-- `order_elements::both` meets its contract. The loop's invariant: the strings are cut further by the same elements, within what they have in common, and what is still to come decides as before. The measure is how many characters in common are left.
use Rattle.order_elements.proofs.CommonLaws.{Going}
use Prim.Native.Nat.{◌-◌}
use Rattle.order_elements.proofs.both.Given as goal

abbrev pub invariant-loop-c : goal.invariant-loop-c
invariant-loop-c l =
    Going l.t l.a l.b l.initial.first l.initial.second l.first l.second l.fn.x.at l.fn.y.at l.fn.x.many l.fn.y.many l.fn.x.skipped l.agreed l.end l.c.size l.c.many l.c.agreed l.c.skipped

abbrev pub decreases-loop-c : goal.decreases-loop-c
decreases-loop-c l =
    l.end - l.c.size
