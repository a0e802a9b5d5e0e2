use Rattle.order_keys.proofs.ForwardLaws.{forward-none, skipped-fits, forward-skip, element-fits, forward-element, end_fits, end-put}
use Rattle.order_keys.proofs.write_forward.Goals as goal

pub loop-i-init : goal.loop-i-init
loop-i-init c = search forward-none

pub overflow_add-skipped : goal.overflow_add-skipped
overflow_add-skipped c = search skipped-fits

pub loop-i-preserved-then-run-eq0 : goal.loop-i-preserved-then-run-eq0
loop-i-preserved-then-run-eq0 c = search forward-skip

pub put_element-next-requires : goal.put_element-next-requires
put_element-next-requires c = search element-fits

pub loop-i-preserved : goal.loop-i-preserved
loop-i-preserved c = search forward-element

pub put_two-requires : goal.put_two-requires
put_two-requires c = search end_fits

pub returns : goal.returns
returns c = search end-put
