-- `table_records::code_told` meets its contract: an even number that is not 0 is 2 at least.
use Rattle.table_records.proofs.ItemLaws.{even-some}
use borrow.Author.Rules.{rules}
use Rattle.table_records.proofs.code_told.Goals as goal

pub overflow_sub-result : goal.overflow_sub-result
overflow_sub-result c = search (rules, even-some)
