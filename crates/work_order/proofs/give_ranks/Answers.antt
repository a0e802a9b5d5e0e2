use Rattle.work_order.proofs.RankLaws.{ranking-start, ranking-row, ranking-row-next, ranking-more, ranking-end}
use borrow.Author.Rules.{rules}
use Rattle.work_order.proofs.give_ranks.Goals as goal

pub loop-before-init : goal.loop-before-init
loop-before-init c = search ranking-start

pub tell-requires : goal.tell-requires
tell-requires c = (search rules, search ranking-row)

pub told-v-requires : goal.told-v-requires
told-v-requires c = (search rules, search ranking-row-next)

pub loop-before-preserved : goal.loop-before-preserved
loop-before-preserved c = search ranking-more

pub returns : goal.returns
returns c = search ranking-end
