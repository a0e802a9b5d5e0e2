use Rattle.charmap_coding.proofs.CountLaws.{counting-none, counting-one, counting-past, counting-fits, counting_more, counting-all}
use Rattle.charmap_coding.proofs.count_ones.Goals as goal

pub loop-i-init : goal.loop-i-init
loop-i-init c = search counting-none

pub overflow_cast-counts : goal.overflow_cast-counts
overflow_cast-counts c = search counting-one

pub overflow_add-counts : goal.overflow_add-counts
overflow_add-counts c = search counting-fits

pub loop-i-preserved-then-d-counts : goal.loop-i-preserved-then-d-counts
loop-i-preserved-then-d-counts c = search counting_more

pub loop-i-preserved : goal.loop-i-preserved
loop-i-preserved c = search counting-past

pub returns : goal.returns
returns c = search counting-all
