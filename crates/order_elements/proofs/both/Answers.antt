use Rattle.order_elements.proofs.CommonLaws.{going-none, going_end, going-within, going-fits, going-size, going-few, going_more}
use Rattle.order_elements.proofs.both.Goals as goal

pub loop-c-init : goal.loop-c-init
loop-c-init c = search going-none

pub returns-in_default : goal.returns-in_default
returns-in_default c = search going_end

pub count_at-count-requires : goal.count_at-count-requires
count_at-count-requires c = going-within c.loop-c.invariant c.loop-c-test.true c.in-Some.ensures

pub overflow_cast-first : goal.overflow_cast-first
overflow_cast-first c = going-fits c.loop-c.invariant c.loop-c-test.true c.in-Some.ensures

pub overflow_cast-second : goal.overflow_cast-second
overflow_cast-second c = going-fits c.loop-c.invariant c.loop-c-test.true c.in-Some.ensures

pub overflow_add-c : goal.overflow_add-c
overflow_add-c c = going-few c.loop-c.invariant c.loop-c-test.true c.in-Some.ensures c.count_at-count.ensures

pub overflow_add-c-in-loop-c : goal.overflow_add-c-in-loop-c
overflow_add-c-in-loop-c c = going-size c.loop-c.invariant c.loop-c-test.true c.in-Some.ensures

pub loop-c-preserved : goal.loop-c-preserved
loop-c-preserved c = going_more c.loop-c.invariant c.loop-c-test.true c.in-Some.ensures c.count_at-count.ensures c.skipped_after.ensures

pub returns : goal.returns
returns c = search going_end
