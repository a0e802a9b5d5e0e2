use Rattle.text_lines.proofs.DullLaws.{counted_none, counted-feed, counted-other, counted-all}
use Rattle.text_lines.proofs.feeds_in.Goals.{then-src-k-eq10, else-src-k-eq10}
use Rattle.text_lines.proofs.feeds_in.Goals as goal

pub loop-k-init : goal.loop-k-init
loop-k-init c = search counted_none

pub loop-k-preserved : goal.loop-k-preserved
loop-k-preserved c = elim c.if-src-k-eq10.branch [ then-src-k-eq10 w ↦ rw w.n-is (search counted-feed) | else-src-k-eq10 w ↦ rw w.n-is (search counted-other) ]

pub returns : goal.returns
returns c = search counted-all
