-- `order_find::quick` meets its contract: where the characters begin, and how many items there are, the table says.
use borrow.Author.Rules.{rules}
use Rattle.order_find.proofs.SearchLaws.{table-indexed}
use Rattle.order_find.proofs.quick.Goals as goal

pub quick_in-requires : goal.quick_in-requires
quick_in-requires c = search (rules, table-indexed)
