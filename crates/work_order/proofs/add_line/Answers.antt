-- `work_order::add_line` meets its contract.
use Rattle.work_order.proofs.ListLaws.{last-reached, with-line}
use Rattle.work_order.proofs.MoveLaws.{longer-first}
use borrow.Author.Rules.{rules}
use Rattle.work_order.proofs.add_line.Goals as goal

pub link-requires : goal.link-requires
link-requires c = (search rules, search rules, search last-reached)

pub returns : goal.returns
returns c = (search longer-first, search with-line)
