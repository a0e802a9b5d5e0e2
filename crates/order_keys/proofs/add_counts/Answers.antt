use borrow.Author.Rules.{rules}
use Rattle.order_keys.proofs.CountLaws.{adding-none, adding-inside, adding-fits, adding-more, adding-all, level-of}
use Rattle.order_keys.proofs.add_counts.Goals as goal

pub loop-level-init : goal.loop-level-init
loop-level-init c = search adding-none

pub weights_in-run-requires : goal.weights_in-run-requires
weights_in-run-requires c = search (rules, level-of)

pub bounds-counts-level : goal.bounds-counts-level
bounds-counts-level c = search adding-inside

pub overflow_add-counts : goal.overflow_add-counts
overflow_add-counts c = search adding-fits

pub bounds-counts-level-in-loop-level : goal.bounds-counts-level-in-loop-level
bounds-counts-level-in-loop-level c = search adding-inside

pub loop-level-preserved : goal.loop-level-preserved
loop-level-preserved c = search adding-more

pub returns : goal.returns
returns c = search adding-all
