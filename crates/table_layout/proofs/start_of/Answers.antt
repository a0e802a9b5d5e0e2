-- `table_layout::start_of` meets its contract: an even bucket has the lower half of its number, an odd one the upper.
use Rattle.table_layout.proofs.BucketLaws.{start-low, start-high}
use Rattle.table_layout.proofs.start_of.Goals as goal

pub returns-then-b-eq0 : goal.returns-then-b-eq0
returns-then-b-eq0 c = search start-low

pub returns-else-b-eq0 : goal.returns-else-b-eq0
returns-else-b-eq0 c = search start-high
