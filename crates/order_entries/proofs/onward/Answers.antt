-- `order_entries::onward` meets its contract: walks that do not stand level stay where they are.
use Rattle.order_entries.proofs.BothLaws.{level-told, onward-none}
use Rattle.order_entries.proofs.onward.Goals as goal

pub both-requires : goal.both-requires
both-requires c = search level-told

pub returns-else-level_with : goal.returns-else-level_with
returns-else-level_with c = search onward-none
