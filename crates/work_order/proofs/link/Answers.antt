-- `work_order::link` meets its contract.
use Rattle.work_order.proofs.ListLaws.{reached-inside, link-none, link-some}
use borrow.Author.Rules.{rules}
use Rattle.work_order.proofs.link.Goals as goal

pub returns-else-l-ne0 : goal.returns-else-l-ne0
returns-else-l-ne0 c = search link-none

pub tell-requires : goal.tell-requires
tell-requires c = (search rules, search reached-inside)

pub returns-then-l-ne0 : goal.returns-then-l-ne0
returns-then-l-ne0 c = search link-some
