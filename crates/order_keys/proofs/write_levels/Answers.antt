use Rattle.order_keys.proofs.CountLaws.{counted-inside}
use Rattle.order_keys.proofs.LevelsLaws.{levels-none, level-at, counted-at, level-room, levels-more, levels-all}
use Rattle.order_keys.proofs.write_levels.Goals as goal

pub loop-level-init : goal.loop-level-init
loop-level-init c = search levels-none

pub bounds-counts-level : goal.bounds-counts-level
bounds-counts-level c = search counted-inside

pub write_level-next-requires : goal.write_level-next-requires
write_level-next-requires c = search (level-at, counted-at, level-room)

pub loop-level-preserved : goal.loop-level-preserved
loop-level-preserved c =
    levels-more c.loop-level.invariant (search level-at) c.rule_of-rule.ensures c.write_level-next.ensures

pub returns : goal.returns
returns c = search levels-all
