-- `table_weights::next_rank` meets its contract: the rank of the next name, and what comes after that.
use Rattle.table_weights.proofs.QuoteLaws.{rank-end, name-to, name-inside, rank-next}
use borrow.Author.Rules.{rules}
use Rattle.table_weights.proofs.next_rank.Goals as goal

pub rank_at-r-requires : goal.rank_at-r-requires
rank_at-r-requires c = search (rules, name-to, name-inside)

pub after_name-e-requires : goal.after_name-e-requires
after_name-e-requires c = search (rules, name-to, name-inside)

pub returns : goal.returns
returns c = search rank-next

pub returns-in_default : goal.returns-in_default
returns-in_default c = search rank-end
