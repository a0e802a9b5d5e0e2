-- `table_weights::measure_item` meets its contract: the place and the own rank are those of the row.
use Rattle.table_weights.proofs.MeasureLaws.{row_inside, row_line, row-measured}
use borrow.Author.Rules.{rules}
use Rattle.table_weights.proofs.measure_item.Goals as goal

pub told-requires : goal.told-requires
told-requires c = search (rules, row_inside)

pub told-place-requires : goal.told-place-requires
told-place-requires c = search (rules, row_inside)

pub measure_line-requires : goal.measure_line-requires
measure_line-requires c = record { readable = search row_line; sound = search rules }

pub returns : goal.returns
returns c = search row-measured
