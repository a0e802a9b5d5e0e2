-- `table_whole::write_table` meets its contract: the head, the items of the order lines and the supplied one make up the table.
use borrow.Author.Rules.{rules}
use Rattle.table_whole.proofs.BuildLaws.{build-items, build-head, build-lines, build-suppliable, build-plain, build-supplied}
use Rattle.table_whole.proofs.FrontLaws.{size-items}
use Rattle.table_whole.proofs.write_table.Goals as goal

pub write_head-requires : goal.write_head-requires
write_head-requires c = search build-head

pub ends_at-chars-requires : goal.ends_at-chars-requires
ends_at-chars-requires c = search (rules, size-items, build-items)

pub weights_part-base-requires : goal.weights_part-base-requires
weights_part-base-requires c = search (rules, size-items, build-items)

pub write_items-requires : goal.write_items-requires
write_items-requires c = search build-lines

pub supply-requires : goal.supply-requires
supply-requires c = search (build-suppliable _ _ _ _ _ _ _ _ c.requires)

pub returns-then-supplied : goal.returns-then-supplied
returns-then-supplied c = search build-supplied

pub returns : goal.returns
returns c = search build-plain
