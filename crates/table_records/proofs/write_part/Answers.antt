-- `table_records::write_part` meets its contract, kind by kind.
use Rattle.table_weights.proofs.MeasureLaws.{part-to, part-inside, part-quoted}
use Rattle.table_records.proofs.PartLaws.{part-own, part_none, part-one, part-quotes, room-own, room-one, room-quotes}
use borrow.Author.Rules.{rules}
use Rattle.table_records.proofs.write_part.Goals as goal

pub put_rank-requires : goal.put_rank-requires
put_rank-requires c = search (rules, room-own)

pub returns-in-Own : goal.returns-in-Own
returns-in-Own c = search part-own

pub returns-in-None : goal.returns-in-None
returns-in-None c = search part_none

pub rank_at-r-requires : goal.rank_at-r-requires
rank_at-r-requires c = search (rules, part-to, part-inside)

pub put_rank-requires-in-One : goal.put_rank-requires-in-One
put_rank-requires-in-One c = search (rules, room-one)

pub returns-in-One : goal.returns-in-One
returns-in-One c = search part-one

pub write_quotes-requires : goal.write_quotes-requires
write_quotes-requires c = search (rules, part-quoted, room-quotes)

pub returns-in-Quotes : goal.returns-in-Quotes
returns-in-Quotes c = search part-quotes
