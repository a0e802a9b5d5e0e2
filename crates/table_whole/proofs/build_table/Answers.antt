-- `table_whole::build_table` meets its contract: the table is stored but for its listing and its starts, and then whole.
use borrow.Author.Rules.{rules}
use Rattle.table_whole.proofs.BuildLaws.{build-listing, build-whole}
use Rattle.table_whole.proofs.build_table.Goals as goal

pub list_items-requires : goal.list_items-requires
list_items-requires c = search (build-listing, rules)

pub returns : goal.returns
returns c = search build-whole
