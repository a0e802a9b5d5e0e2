-- `work_toggles::candidate_among` meets its contract. The invariant: the candidate among the toggles so far.
use Rattle.work_toggles.proofs.CandidateLaws.{Choosing}
use Rattle.work_toggles.proofs.candidate_among.Given as goal

abbrev pub invariant-loop-i : goal.invariant-loop-i
invariant-loop-i l = Choosing l.word l.work l.from l.n l.c l.i
