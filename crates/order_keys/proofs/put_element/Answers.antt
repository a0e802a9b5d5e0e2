-- `order_keys::put_element` meets its contract: the first weight, and behind it the others.
use Rattle.order_keys.proofs.ElementLaws.{first-inside, first_fits, element-one, others-fit, element-all}
use Rattle.order_keys.proofs.put_element.Goals as goal

pub weight-first-requires : goal.weight-first-requires
weight-first-requires c = search first-inside

pub put_entry-next-requires : goal.put_entry-next-requires
put_entry-next-requires c = search first_fits

pub returns-then-many-eq1 : goal.returns-then-many-eq1
returns-then-many-eq1 c = search element-one

pub put_later-requires : goal.put_later-requires
put_later-requires c = search others-fit

pub returns-else-many-eq1 : goal.returns-else-many-eq1
returns-else-many-eq1 c = search element-all
