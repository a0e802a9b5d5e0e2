-- `order_directory::fit` meets its contract.
use Rattle.order_directory.proofs.PageLaws.{too_many, few-enough}
use Rattle.order_directory.proofs.fit.Goals as goal

pub returns-else-count-le1000 : goal.returns-else-count-le1000
returns-else-count-le1000 c = search too_many

pub returns-then-count-le1000 : goal.returns-then-count-le1000
returns-then-count-le1000 c = search few-enough
