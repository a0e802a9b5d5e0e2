-- `order_elements::split` meets its contract. The loop's invariant: the elements up to a place are cut. The measure is how many characters are left.
use Rattle.order_elements.proofs.CutLaws.{Cutting}
use Prim.Native.Nat.{◌-◌}
use lib.ListN.{length}
use Rattle.order_elements.proofs.split.Given as goal

abbrev pub invariant-loop-at : goal.invariant-loop-at
invariant-loop-at l = Cutting l.t l.s l.initial.places l.places l.at l.many

abbrev pub decreases-loop-at : goal.decreases-loop-at
decreases-loop-at l = length l.s - l.at
