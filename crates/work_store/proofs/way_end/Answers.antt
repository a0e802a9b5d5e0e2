use Rattle.work_store.proofs.DeclareLaws.{walks-start, walks-none, walks-out, walks-all, walks-on}
use Rattle.work_store.proofs.way_end.Goals as goal
use Rattle.work_store.proofs.way_end.Goals.{then-l-eq0-via-then-l-eq0, then-l-eq0-via-else-l-eq0+then-heads-l}

pub loop-depth-init : goal.loop-depth-init
loop-depth-init c = search walks-start

pub returns-then-l-eq0 : goal.returns-then-l-eq0
returns-then-l-eq0 c = elim c.then-l-eq0.branch [ then-l-eq0-via-then-l-eq0 w ↦ search walks-none | then-l-eq0-via-else-l-eq0+then-heads-l w ↦ search walks-out ]

pub loop-depth-preserved : goal.loop-depth-preserved
loop-depth-preserved c = search walks-on

pub returns : goal.returns
returns c = search walks-all
