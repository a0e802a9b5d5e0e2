-- `table_weights::measure_part` meets its contract, kind by kind.
use Rattle.table_weights.proofs.MeasureLaws.{measure-own, measure-none, part-to, part-inside, part-quoted, measure-one, measure-quotes}
use borrow.Author.Rules.{rules}
use Rattle.table_weights.proofs.measure_part.Goals as goal

pub returns-in-Own : goal.returns-in-Own
returns-in-Own c = search measure-own

pub returns-in-None : goal.returns-in-None
returns-in-None c = search measure-none

pub rank_at-r-requires : goal.rank_at-r-requires
rank_at-r-requires c = search (rules, part-to, part-inside)

pub returns-in-One : goal.returns-in-One
returns-in-One c = search measure-one

pub measure_quotes-requires : goal.measure_quotes-requires
measure_quotes-requires c = search (rules, part-quoted)

pub returns-in-Quotes : goal.returns-in-Quotes
returns-in-Quotes c = search measure-quotes
