-- `table_whole::all_items` meets its contract.
use Rattle.table_whole.proofs.FrontLaws.{all-items-more, all-items-same}
use Rattle.table_whole.proofs.all_items.Goals as goal

pub returns-then-supplied : goal.returns-then-supplied
returns-then-supplied c = search all-items-more

pub returns-else-supplied : goal.returns-else-supplied
returns-else-supplied c = search all-items-same
