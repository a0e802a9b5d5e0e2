-- `table_whole::all_weights` meets its contract.
use Rattle.table_whole.proofs.FrontLaws.{all-weights-more, all-weights-same}
use Rattle.table_whole.proofs.all_weights.Goals as goal

pub returns-then-supplied : goal.returns-then-supplied
returns-then-supplied c = search all-weights-more

pub returns-else-supplied : goal.returns-else-supplied
returns-else-supplied c = search all-weights-same
