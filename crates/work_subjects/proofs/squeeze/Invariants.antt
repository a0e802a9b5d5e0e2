-- `work_subjects::squeeze` meets its contract. The invariant: the numbers passed are squeezed, the others are as at entry. The measure is how many are left.
use Prim.Native.Nat.{◌-◌}
use Rattle.work_subjects.proofs.SqueezeLaws.{Squeezing}
use Rattle.work_subjects.proofs.squeeze.Given as goal

abbrev pub invariant-loop-i : goal.invariant-loop-i
invariant-loop-i l = Squeezing l.initial.key l.key l.rest l.i

abbrev pub decreases-loop-i : goal.decreases-loop-i
decreases-loop-i l = 7 - l.i
