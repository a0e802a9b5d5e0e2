-- `order_directory::inside` meets its contract: what the run has from the part's start on is compared, so that no sum is too large.
use Rattle.order_directory.proofs.PartLaws.{begins-outside, begins-inside}
use Rattle.order_directory.proofs.inside.Goals as goal

pub returns-else-p-run : goal.returns-else-p-run
returns-else-p-run c = search begins-outside

pub returns-then-p-run : goal.returns-then-p-run
returns-then-p-run c = search begins-inside
