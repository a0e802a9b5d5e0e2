-- `pairs_report::take_run` meets its contract. The loop's invariant: the run from i on is still to be kept, as far as there is room.
use Rattle.pairs_report.proofs.RunLaws.{Taking}
use Rattle.pairs_report.proofs.take_run.Given as goal

abbrev pub invariant-loop-i : goal.invariant-loop-i
invariant-loop-i l = Taking l.piece l.from l.initial.current l.len l.current l.i l.n
