-- `table_check::item_passes` meets its contract: an item that ends in padding needs its first number alone.
use Rattle.table_check.proofs.CharLaws.{item-alone}
use Rattle.table_check.proofs.item_passes.Goals as goal

pub returns-then-four-eq1114112-3 : goal.returns-then-four-eq1114112-3
returns-then-four-eq1114112-3 c = search item-alone
