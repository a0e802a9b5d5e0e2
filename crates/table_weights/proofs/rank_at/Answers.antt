-- `table_weights::rank_at` meets its contract: the key at the name's mark is what it means, and the row of what is found has its rank.
use Rattle.table_weights.proofs.FindLaws.{mark-small, mark-in, found-row, rank-found, rank-none}
use borrow.Author.Rules.{rules}
use Rattle.table_weights.proofs.rank_at.Goals as goal

pub overflow_mul-p : goal.overflow_mul-p
overflow_mul-p c = search (rules, mark-small)

pub find-requires : goal.find-requires
find-requires c = search (rules, mark-in)

pub told-requires : goal.told-requires
told-requires c = search (rules, found-row)

pub returns-in-Some : goal.returns-in-Some
returns-in-Some c = search rank-found

pub returns-in-None : goal.returns-in-None
returns-in-None c = search rank-none
