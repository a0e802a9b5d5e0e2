-- `order_find::number` meets its contract: behind the characters there is padding.
use Rattle.order_find.proofs.KeyLaws.{number-inside, number_past}
use Rattle.order_find.proofs.number.Goals as goal

pub returns-then-i-size : goal.returns-then-i-size
returns-then-i-size c = search number-inside

pub returns-else-i-size : goal.returns-else-i-size
returns-else-i-size c = search number_past
