-- `order_directory::count` meets its contract: two numbers give a part.
use Rattle.order_directory.proofs.PartLaws.{parts-many}
use Rattle.order_directory.proofs.count.Goals as goal

pub returns : goal.returns
returns c = search parts-many
