use Rattle.order_compare.proofs.LevelLaws.{placed-level, levels-none, levels-more, level-settled, levels-all}
use Rattle.order_compare.proofs.compare_from.Goals as goal

pub loop-k-init : goal.loop-k-init
loop-k-init c = search levels-none

pub compare_level-seen-requires : goal.compare_level-seen-requires
compare_level-seen-requires c = search placed-level

pub returns-in_default : goal.returns-in_default
returns-in_default c = search level-settled

pub loop-k-preserved : goal.loop-k-preserved
loop-k-preserved c = search levels-more

pub returns : goal.returns
returns c = search levels-all
