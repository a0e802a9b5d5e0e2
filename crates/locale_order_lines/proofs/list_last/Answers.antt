-- `locale_order_lines::list_last` meets its contract: the line is added, and the sheet takes it.
use Rattle.locale_order_lines.proofs.RowLaws.{lists-last}
use Rattle.locale_order_lines.proofs.list_last.Goals as goal

pub returns : goal.returns
returns c = search lists-last
