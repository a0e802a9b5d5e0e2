-- `locale_order_lines::list_new` meets its contract: the line comes to stand after the last one of its block, and the sheet takes it.
use Rattle.locale_order_lines.proofs.RowLaws.{new-among, last-small, lists-new}
use borrow.Author.Rules.{rules}
use Rattle.locale_order_lines.proofs.list_new.Goals as goal

pub put_after-o-requires : goal.put_after-o-requires
put_after-o-requires c = record { among = (search new-among, search rules); a_bound = (search last-small, search rules, search rules, search rules, search rules) }

pub returns : goal.returns
returns c = search lists-new
