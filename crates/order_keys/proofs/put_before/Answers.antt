-- `order_keys::put_before` meets its contract: an element takes as many entries as it has weights.
use Rattle.order_keys.proofs.ElementLaws.{before-none, before-wide, before-long, before-fits, before-put}
use Rattle.order_keys.proofs.put_before.Goals as goal

pub returns-then-many-eq0 : goal.returns-then-many-eq0
returns-then-many-eq0 c = search before-none

pub overflow_mul-at : goal.overflow_mul-at
overflow_mul-at c = search before-long

pub overflow_sub-at : goal.overflow_sub-at
overflow_sub-at c = search before-wide

pub put_element-requires : goal.put_element-requires
put_element-requires c = search before-fits

pub returns : goal.returns
returns c = search before-put
