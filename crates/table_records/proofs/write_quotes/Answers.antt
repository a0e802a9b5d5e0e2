use Rattle.table_records.proofs.PartLaws.{quoting-none, quoting-less, quoting-room, quoting-more, quoting-all}
use borrow.Author.Rules.{rules}
use Rattle.table_records.proofs.write_quotes.Goals as goal

pub loop-r-init : goal.loop-r-init
loop-r-init c = search quoting-none

pub put_rank-next-requires : goal.put_rank-next-requires
put_rank-next-requires c = search (rules, quoting-room)

pub loop-r-smaller : goal.loop-r-smaller
loop-r-smaller c = search quoting-less

pub loop-r-preserved : goal.loop-r-preserved
loop-r-preserved c = search quoting-more

pub returns : goal.returns
returns c = search quoting-all
