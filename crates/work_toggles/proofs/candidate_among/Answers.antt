use Rattle.work_toggles.proofs.CandidateLaws.{choose-start, choose-this, choose-that, choose-end}
use Rattle.work_toggles.proofs.candidate_among.Goals as goal
use Rattle.work_toggles.proofs.candidate_among.Goals.{then-is_taken, else-is_taken}

pub loop-i-init : goal.loop-i-init
loop-i-init c = search choose-start

pub loop-i-preserved : goal.loop-i-preserved
loop-i-preserved c = elim c.if-is_taken.branch [ then-is_taken w ↦ rw w.c-is (search choose-this) | else-is_taken w ↦ rw w.c-is (search choose-that) ]

pub returns : goal.returns
returns c = search choose-end
