-- `work_store::same_run` meets its contract. The invariant: the numbers so far are the same.
use Rattle.work_store.proofs.SlotLaws.{Running}
use Rattle.work_store.proofs.same_run.Given as goal

abbrev pub invariant-loop-i : goal.invariant-loop-i
invariant-loop-i l = Running l.work l.at l.key l.from l.to l.i
