-- `work_order::where_none` meets its contract.
use Rattle.work_order.proofs.MoveLaws.{none_first, none-second}
use Rattle.work_order.proofs.where_none.Goals as goal

pub returns-then-n-eq0 : goal.returns-then-n-eq0
returns-then-n-eq0 c = search none_first

pub returns-else-n-eq0 : goal.returns-else-n-eq0
returns-else-n-eq0 c = search none-second
