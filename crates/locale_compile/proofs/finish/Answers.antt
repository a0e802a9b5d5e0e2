-- `locale_compile::finish` meets its contract: ranks, then 8 by line, then the table.
use Rattle.locale_compile.proofs.RankLaws.{source_lines, source-few, source-ready, unranked-after, source-ranks, whole-sums}
use Rattle.locale_compile.proofs.finish.Goals as goal

pub give_ranks-requires : goal.give_ranks-requires
give_ranks-requires c = (search source_lines, search source-few)

pub measure_lines-s-requires : goal.measure_lines-s-requires
measure_lines-s-requires c = search source-ready

pub returns-in-Err : goal.returns-in-Err
returns-in-Err c = search unranked-after

pub put_table-requires : goal.put_table-requires
put_table-requires c = (search source-ranks, search whole-sums)
