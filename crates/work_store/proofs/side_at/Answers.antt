-- `work_store::side_at` meets its contract: by the bit of the key at that depth, to the left behind the last.
use Rattle.work_store.proofs.SlotLaws.{side_left, side_right, side-past}
use borrow.Author.Rules.{rules}
use Rattle.work_store.proofs.side_at.Goals as goal

pub returns-then-x-eq0 : goal.returns-then-x-eq0
returns-then-x-eq0 c = (search side_left, search rules)

pub returns-else-x-eq0 : goal.returns-else-x-eq0
returns-else-x-eq0 c = (search side_right, search rules)

pub returns-else-i-lt8 : goal.returns-else-i-lt8
returns-else-i-lt8 c = (search side-past, search rules)
