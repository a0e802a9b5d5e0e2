use Rattle.table_weights.proofs.QuoteLaws.{counting-none, counting-less, counting-small, counting_more, counting-all}
use borrow.Author.Rules.{rules}
use Rattle.table_weights.proofs.measure_quotes.Goals as goal

pub loop-r-init : goal.loop-r-init
loop-r-init c = search counting-none

pub overflow_add-weights : goal.overflow_add-weights
overflow_add-weights c = search (rules, counting-small)

pub loop-r-smaller : goal.loop-r-smaller
loop-r-smaller c = search counting-less

pub loop-r-preserved : goal.loop-r-preserved
loop-r-preserved c = search counting_more

pub returns : goal.returns
returns c = search counting-all
