-- `work_toggles::first_difference` meets its contract. The invariant: the rooms are the same so far.
use Rattle.work_toggles.proofs.CopyLaws.{Comparing}
use Rattle.work_toggles.proofs.first_difference.Given as goal

abbrev pub invariant-loop-i : goal.invariant-loop-i
invariant-loop-i l = Comparing l.a l.b l.i
