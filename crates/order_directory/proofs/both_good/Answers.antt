-- `order_directory::both_good` meets its contract.
use Rattle.order_directory.proofs.PageLaws.{fitting-headings, fitting-topics}
use Rattle.order_directory.proofs.both_good.Goals as goal

pub all_good-requires : goal.all_good-requires
all_good-requires c = search fitting-headings

pub all_good-requires-then-all_good : goal.all_good-requires-then-all_good
all_good-requires-then-all_good c = search fitting-topics
