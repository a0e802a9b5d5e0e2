use Rattle.charmap_coding.proofs.OnesLaws.{summing-none, summing-fits, summing-same, summing-other, summing-all}
use Rattle.charmap_coding.proofs.ones_of.Goals as goal
use Rattle.charmap_coding.proofs.ones_of.Goals.{then-c-d, else-c-d}

pub loop-i-init : goal.loop-i-init
loop-i-init c = search summing-none

pub overflow_add-sum : goal.overflow_add-sum
overflow_add-sum c = search summing-fits

pub loop-i-preserved : goal.loop-i-preserved
loop-i-preserved c = elim c.if-c-d.branch [ then-c-d w ↦ search summing-same | else-c-d w ↦ search summing-other ]

pub returns : goal.returns
returns c = search summing-all
