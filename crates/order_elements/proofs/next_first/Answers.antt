-- `order_elements::next_first` meets its contract: a weight left of the present element is the next entry; else what is left of the string decides.
use Rattle.order_elements.proofs.FirstLaws.{left-more, left-on}
use native.Mathlib.Omega.{arith}
use Rattle.order_elements.proofs.next_first.Goals as goal

pub weight-rank-requires : goal.weight-rank-requires
weight-rank-requires c = omega (arith, c.requires.sound.inside c.if-left-gt0.true)

pub overflow_add-result : goal.overflow_add-result
overflow_add-result c = omega (arith, c.requires.sound.inside c.if-left-gt0.true)

pub returns-then-left-gt0 : goal.returns-then-left-gt0
returns-then-left-gt0 c = search left-more

pub returns : goal.returns
returns c = search left-on
