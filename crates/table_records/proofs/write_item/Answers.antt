-- `table_records::write_item` meets its contract: the characters, then the ends and the weights.
use Rattle.table_weights.proofs.MeasureLaws.{row_inside, row_line}
use Rattle.table_records.proofs.ItemLaws.{item-chars, item_room, item-put, item-same}
use borrow.Author.Rules.{rules}
use Rattle.table_records.proofs.write_item.Goals as goal

pub told-requires : goal.told-requires
told-requires c = search (rules, row_inside)

pub told-place-requires : goal.told-place-requires
told-place-requires c = search (rules, row_inside)

pub write_chars-requires : goal.write_chars-requires
write_chars-requires c = search (rules, item-chars)

pub write_line-requires : goal.write_line-requires
write_line-requires c = record { readable = search row_line; sound = search rules; line_room = search item_room }

pub shape_of-area : goal.shape_of-area
shape_of-area c = search (rules, item-same)

pub returns : goal.returns
returns c = search item-put
