-- `table_check::starts_are` meets its contract: from an even bucket on by pairs, from an odd one on behind it.
use Rattle.table_check.proofs.PairLaws.{starts_more, starts-no}
use Rattle.table_check.proofs.starts_are.Goals as goal

pub returns-then-start_of-k : goal.returns-then-start_of-k
returns-then-start_of-k c = search starts_more

pub returns-else-start_of-k : goal.returns-else-start_of-k
returns-else-start_of-k c = search starts-no
