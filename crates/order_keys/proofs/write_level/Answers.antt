-- `order_keys::write_level` meets its contract: a level that is walked backward ends as many bytes behind its place as its entries take.
use borrow.Author.Rules.{rules}
use Rattle.order_keys.proofs.CountLaws.{entries-counted}
use Rattle.order_keys.proofs.LevelsLaws.{forward-room, forward-put, backward-fits, backward-start, backward-end, backward-put}
use Rattle.order_keys.proofs.write_level.Goals as goal

pub level_width-requires : goal.level_width-requires
level_width-requires c = search entries-counted

pub overflow_add-end : goal.overflow_add-end
overflow_add-end c = search backward-fits

pub write_backward-requires : goal.write_backward-requires
write_backward-requires c = search (rules, backward-start, backward-end)

pub returns-then-rule : goal.returns-then-rule
returns-then-rule c = search backward-put

pub write_forward-requires : goal.write_forward-requires
write_forward-requires c = search (rules, forward-room)

pub returns-else-rule : goal.returns-else-rule
returns-else-rule c = search forward-put
