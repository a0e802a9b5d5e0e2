-- `locale_compile::put_table` meets its contract: 9 where the area is too short, else the table.
use borrow.Author.Rules.{rules}
use Rattle.locale_compile.proofs.TableLaws.{few_bytes, work-room, few-items, few-weights, short-answer, table_fits}
use Rattle.locale_compile.proofs.put_table.Goals as goal

pub is_supplied-supplied-requires : goal.is_supplied-supplied-requires
is_supplied-supplied-requires c = (search few_bytes, search work-room)

pub table_size-size-requires : goal.table_size-size-requires
table_size-size-requires c = (search rules, search few-items, search few-weights)

pub returns-then-area-size : goal.returns-then-area-size
returns-then-area-size c = search short-answer

pub fill_table-requires : goal.fill_table-requires
fill_table-requires c = record { ranks_given = (search rules, search rules); table_fits = search table_fits }
