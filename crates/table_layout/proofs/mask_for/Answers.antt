use Rattle.table_layout.proofs.BucketLaws.{grown-none, grown-double, grown-same, grown-all}
use Rattle.table_layout.proofs.mask_for.Goals as goal
use Rattle.table_layout.proofs.mask_for.Goals.{then-p-items, else-p-items}

pub loop-init : goal.loop-init
loop-init c = search grown-none

pub loop-preserved : goal.loop-preserved
loop-preserved c =
    elim c.if-p-items.branch [
      | then-p-items w ↦ grown-double c.loop.invariant c.loop-test.true w.if-p-items.true w.p-is
      | else-p-items w ↦ grown-same c.loop.invariant c.loop-test.true w.if-p-items.false w.p-is
    ]

pub returns : goal.returns
returns c = search grown-all
