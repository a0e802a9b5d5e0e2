-- `table_records::write_level` meets its contract: the weights, then where they end.
use Rattle.table_records.proofs.LineLaws.{level-from, level-small, level-long, level-slot, level-put}
use borrow.Author.Rules.{rules}
use Rattle.table_records.proofs.write_level.Goals as goal

pub overflow_sub-area : goal.overflow_sub-area
overflow_sub-area c = search (rules, level-from)

pub overflow_cast-area : goal.overflow_cast-area
overflow_cast-area c = search (rules, level-small)

pub bounds-area-slot : goal.bounds-area-slot
bounds-area-slot c = search (rules, level-slot)

pub shape_of-area : goal.shape_of-area
shape_of-area c = search (rules, level-long)

pub returns : goal.returns
returns c = search level-put
