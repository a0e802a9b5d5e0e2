use Rattle.order_elements.proofs.CutLaws.{first-within}
use Rattle.order_elements.proofs.FirstLaws.{passing-none, passing-more, passing-found, passing-end, held_first}
use native.Mathlib.Omega.{arith}
use Rattle.order_elements.proofs.next_element.Goals as goal

pub loop-i-init : goal.loop-i-init
loop-i-init c = search passing-none

pub weights-run-requires : goal.weights-run-requires
weights-run-requires c = search first-within

pub weight-rank-requires : goal.weight-rank-requires
weight-rank-requires c = search held_first

pub overflow_add-result : goal.overflow_add-result
overflow_add-result c = omega (arith, held_first c.weights-run.ensures c.if-left-gt0.true)

pub returns-then-left-gt0 : goal.returns-then-left-gt0
returns-then-left-gt0 c = search passing-found

pub loop-i-preserved : goal.loop-i-preserved
loop-i-preserved c = search passing-more

pub returns : goal.returns
returns c = search passing-end
