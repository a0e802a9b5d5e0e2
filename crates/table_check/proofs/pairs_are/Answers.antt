-- `table_check::pairs_are` meets its contract: one law for each way out.
use Rattle.table_check.proofs.PairLaws.{pairs-all, pairs-last, pairs-no}
use Rattle.table_check.proofs.pairs_are.Goals as goal

pub returns-then-end-eq0 : goal.returns-then-end-eq0
returns-then-end-eq0 c = search pairs-all

pub returns-else-end-eq0 : goal.returns-else-end-eq0
returns-else-end-eq0 c = search pairs-last

pub returns-else-all_within : goal.returns-else-all_within
returns-else-all_within c = search pairs-no
