use Rattle.order_entries.proofs.WalkLaws.{passing-none, passing-more, passing-found, passing-end, element-within, held_first}
use native.Mathlib.Omega.{arith}
use Rattle.order_entries.proofs.next_element.Goals as goal

pub loop-i-init : goal.loop-i-init
loop-i-init c = search passing-none

pub weights-run-requires : goal.weights-run-requires
weights-run-requires c = search element-within

pub weight-rank-requires : goal.weight-rank-requires
weight-rank-requires c = search held_first

pub overflow_add-result-then-many-gt0 : goal.overflow_add-result-then-many-gt0
overflow_add-result-then-many-gt0 c = omega (arith, held_first c.weights-run.ensures c.if-many-gt0.true)

pub returns-then-many-gt0 : goal.returns-then-many-gt0
returns-then-many-gt0 c = search passing-found

pub loop-i-preserved : goal.loop-i-preserved
loop-i-preserved c = search passing-more

pub returns : goal.returns
returns c = search passing-end
