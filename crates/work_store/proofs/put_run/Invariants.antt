-- `work_store::put_run` meets its contract. The invariant: the numbers so far are written, and nothing else.
use Rattle.work_store.proofs.SlotLaws.{Writing}
use Rattle.work_store.proofs.put_run.Given as goal

abbrev pub invariant-loop-i : goal.invariant-loop-i
invariant-loop-i l = Writing l.initial.work l.at l.key l.from l.to l.i l.work
