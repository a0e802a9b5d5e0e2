-- `order_elements::together` meets its contract: walks that stand level go on by what both strings have in common.
use Rattle.order_elements.proofs.CommonLaws.{together-level, together-on, together-stay}
use Rattle.order_elements.proofs.together.Goals as goal

pub both-c-requires : goal.both-c-requires
both-c-requires c = search together-level

pub returns-then-level_with : goal.returns-then-level_with
returns-then-level_with c =
    together-on _ _ c.level_with.ensures c.if-level_with.true c.both-c.ensures

pub returns : goal.returns
returns c = search together-stay
