-- `order_keys::level_width` meets its contract: the entries' bytes, and two more.
use Rattle.order_keys.proofs.CountLaws.{entries_fit, level-fits, level-is}
use Rattle.order_keys.proofs.level_width.Goals as goal

pub overflow_mul-result : goal.overflow_mul-result
overflow_mul-result c = search entries_fit

pub overflow_add-result : goal.overflow_add-result
overflow_add-result c = search level-fits

pub returns : goal.returns
returns c = search level-is
