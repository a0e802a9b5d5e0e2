use Rattle.order_keys.proofs.CountLaws.{widening-none, codes-fit, counted-inside, counted-few, widening-fits, widening-more, widening-all}
use Rattle.order_keys.proofs.key_width.Goals as goal

pub overflow_mul-wide : goal.overflow_mul-wide
overflow_mul-wide c = search codes-fit

pub loop-level-init : goal.loop-level-init
loop-level-init c = search widening-none

pub bounds-counts-level : goal.bounds-counts-level
bounds-counts-level c = search counted-inside

pub level_width-wide-requires : goal.level_width-wide-requires
level_width-wide-requires c = search counted-few

pub overflow_add-wide : goal.overflow_add-wide
overflow_add-wide c = search widening-fits

pub loop-level-preserved : goal.loop-level-preserved
loop-level-preserved c = search widening-more

pub returns : goal.returns
returns c = search widening-all
