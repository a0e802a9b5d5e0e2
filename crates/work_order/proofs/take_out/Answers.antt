-- `work_order::take_out` meets its contract.
use Rattle.work_order.proofs.MoveLaws.{among-inside, among-some, among-back, among_next, shorter-is, unlinked-is}
use borrow.Author.Rules.{rules}
use Rattle.work_order.proofs.take_out.Goals as goal

pub told-next-requires : goal.told-next-requires
told-next-requires c = (search rules, search among-inside)

pub told-back-requires : goal.told-back-requires
told-back-requires c = (search rules, search among-inside)

pub link-requires : goal.link-requires
link-requires c = (search rules, search rules, search among-back)

pub link-requires-2 : goal.link-requires-2
link-requires-2 c = (search rules, search rules, search among_next)

pub overflow_sub-count : goal.overflow_sub-count
overflow_sub-count c = search among-some

pub returns : goal.returns
returns c = (search shorter-is, search unlinked-is)
