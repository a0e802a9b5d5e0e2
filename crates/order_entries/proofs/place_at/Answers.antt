-- `order_entries::place_at` meets its contract: walked backward, the i-th element is the i-th from the end.
use Rattle.order_entries.proofs.WalkLaws.{directed-backward, directed-forward}
use Rattle.order_entries.proofs.place_at.Goals as goal

pub returns-then-backward : goal.returns-then-backward
returns-then-backward c = search directed-backward

pub returns-else-backward : goal.returns-else-backward
returns-else-backward c = search directed-forward
