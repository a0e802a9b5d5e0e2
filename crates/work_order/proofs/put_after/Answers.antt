-- `work_order::put_after` meets its contract.
use Rattle.work_order.proofs.MoveLaws.{among-inside, longer-is, between-rows, put_is}
use borrow.Author.Rules.{rules}
use Rattle.work_order.proofs.put_after.Goals as goal

pub told-next-requires : goal.told-next-requires
told-next-requires c = (search rules, search among-inside)

pub link_between-requires : goal.link_between-requires
link_between-requires c = record { between = search between-rows; a_bound = search rules }

pub returns : goal.returns
returns c = (search longer-is, search put_is)
