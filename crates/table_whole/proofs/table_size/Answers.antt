-- `table_whole::table_size` meets its contract.
use borrow.Author.Rules.{rules}
use Rattle.table_whole.proofs.FrontLaws.{size-items, size_small, size-whole}
use Rattle.table_whole.proofs.table_size.Goals as goal

pub weights_part-base-requires : goal.weights_part-base-requires
weights_part-base-requires c = search (rules, size-items)

pub overflow_add-result : goal.overflow_add-result
overflow_add-result c = search (rules, size_small)

pub returns : goal.returns
returns c = search size-whole
