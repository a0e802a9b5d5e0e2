use borrow.Author.Rules.{rules}
use Rattle.order_keys.proofs.PieceLaws.{all-characters}
use Rattle.order_keys.proofs.CountLaws.{counting-none, counting-countable, counting-within, counting-fits, counting-less, counting_more, counting-all}
use Rattle.order_keys.proofs.count_entries.Goals as goal

pub loop-at-init : goal.loop-at-init
loop-at-init c = search counting-none

pub longest_in-found-requires : goal.longest_in-found-requires
longest_in-found-requires c = search (rules, all-characters)

pub add_counts-requires : goal.add_counts-requires
add_counts-requires c = search (counting-within, counting-countable)

pub overflow_add-at : goal.overflow_add-at
overflow_add-at c = search counting-fits

pub loop-at-smaller : goal.loop-at-smaller
loop-at-smaller c = search counting-less

pub loop-at-preserved : goal.loop-at-preserved
loop-at-preserved c = search counting_more

pub returns : goal.returns
returns c = search counting-all
