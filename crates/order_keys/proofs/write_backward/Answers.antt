use borrow.Author.Rules.{rules}
use Rattle.order_keys.proofs.PieceLaws.{piece-fits}
use Rattle.order_keys.proofs.BackwardLaws.{two-inside, two_fits, backward-none, kept-skipped, kept-fits, backward-skip, backward-element, backward-all}
use Rattle.order_keys.proofs.write_backward.Goals as goal

pub overflow_sub-from : goal.overflow_sub-from
overflow_sub-from c = search two-inside

pub put_two-requires : goal.put_two-requires
put_two-requires c = search two_fits

pub loop-i-init : goal.loop-i-init
loop-i-init c = search backward-none

pub overflow_add-behind : goal.overflow_add-behind
overflow_add-behind c = search kept-skipped

pub loop-i-preserved-then-run-eq0 : goal.loop-i-preserved-then-run-eq0
loop-i-preserved-then-run-eq0 c = search backward-skip

pub put_before-from-requires : goal.put_before-from-requires
put_before-from-requires c = kept-fits c.loop-i.invariant (search rules)

pub overflow_add-i : goal.overflow_add-i
overflow_add-i c = search piece-fits

pub loop-i-preserved : goal.loop-i-preserved
loop-i-preserved c = search backward-element

pub put_before-requires : goal.put_before-requires
put_before-requires c = kept-fits c.loop-i.invariant (search rules)

pub returns : goal.returns
returns c = search backward-all
