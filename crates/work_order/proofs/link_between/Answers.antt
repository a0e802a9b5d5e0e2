-- `work_order::link_between` meets its contract.
use Rattle.work_order.proofs.MoveLaws.{between_is, between_next, between-before, between-row}
use borrow.Author.Rules.{rules}
use Rattle.work_order.proofs.link_between.Goals as goal

pub link-requires : goal.link-requires
link-requires c = (search rules, search rules, search between_next)

pub tell-requires : goal.tell-requires
tell-requires c = search (rules, between-before)

pub tell-requires-2 : goal.tell-requires-2
tell-requires-2 c = search (rules, between-row)

pub tell-requires-3 : goal.tell-requires-3
tell-requires-3 c = search (rules, between-row)

pub returns : goal.returns
returns c = search between_is
