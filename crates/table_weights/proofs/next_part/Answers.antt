-- `table_weights::next_part` meets its contract: the next operand, or the line itself where none is left.
use Rattle.table_weights.proofs.PartLaws.{turn_end, turn-bad, turn-empty, turn_one}
use Rattle.table_weights.proofs.next_part.Goals as goal

pub returns-in-Empty : goal.returns-in-Empty
returns-in-Empty c = search turn-empty

pub returns-in-One : goal.returns-in-One
returns-in-One c = search turn_one

pub returns-in-Bad : goal.returns-in-Bad
returns-in-Bad c = search turn-bad

pub returns-else-c : goal.returns-else-c
returns-else-c c = search turn_end
