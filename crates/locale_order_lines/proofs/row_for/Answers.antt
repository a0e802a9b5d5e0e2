-- `locale_order_lines::row_for` meets its contract: a law for each way to return.
use Rattle.locale_order_lines.proofs.RowLaws.{row-found, row_new}
use Rattle.locale_order_lines.proofs.row_for.Goals as goal

pub returns-in-Some : goal.returns-in-Some
returns-in-Some c = search row-found

pub returns-in-None : goal.returns-in-None
returns-in-None c = search row_new
