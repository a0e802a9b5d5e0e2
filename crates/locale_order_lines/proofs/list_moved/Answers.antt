-- `locale_order_lines::list_moved` meets its contract: the line leaves its place, and comes to stand after the last one of its block.
use Rattle.locale_order_lines.proofs.RowLaws.{out-among, moved-among, moved_row, moved-few, last-small, lists-moved}
use borrow.Author.Rules.{rules}
use Rattle.locale_order_lines.proofs.list_moved.Goals as goal

pub take_out-left-requires : goal.take_out-left-requires
take_out-left-requires c = search out-among

pub put_after-o-requires : goal.put_after-o-requires
put_after-o-requires c = record { among = (search moved-among, search moved_row); a_bound = (search last-small, search rules, search rules, search rules, search moved-few) }

pub returns : goal.returns
returns c = search lists-moved
