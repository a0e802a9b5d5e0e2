-- `order_directory::weight` meets its contract.
use Rattle.order_directory.proofs.PageLaws.{ready-part}
use Rattle.order_directory.proofs.weight.Goals as goal

pub part_weight-requires : goal.part_weight-requires
part_weight-requires c = search ready-part
