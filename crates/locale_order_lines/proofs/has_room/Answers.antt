-- `locale_order_lines::has_room` meets its contract: a law for each way to return.
use Rattle.locale_order_lines.proofs.OwnLaws.{room_moved, room-more}
use Rattle.locale_order_lines.proofs.has_room.Goals as goal

pub returns-then-ordered : goal.returns-then-ordered
returns-then-ordered c = search room_moved

pub returns-else-ordered : goal.returns-else-ordered
returns-else-ordered c = search room-more
