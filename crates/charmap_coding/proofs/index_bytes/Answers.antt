use Rattle.charmap_coding.proofs.ByteLaws.{indexing-none, indexing-fits, indexing-unmarked, indexing-past, indexing-marked, indexing-all}
use Rattle.charmap_coding.proofs.index_bytes.Goals as goal

pub loop-i-init : goal.loop-i-init
loop-i-init c = search indexing-none

pub overflow_cast-index : goal.overflow_cast-index
overflow_cast-index c = search indexing-fits

pub loop-i-preserved-then-d-index : goal.loop-i-preserved-then-d-index
loop-i-preserved-then-d-index c = search indexing-marked

pub loop-i-preserved-else-d-index : goal.loop-i-preserved-else-d-index
loop-i-preserved-else-d-index c = search indexing-past

pub loop-i-preserved : goal.loop-i-preserved
loop-i-preserved c = search indexing-unmarked

pub returns : goal.returns
returns c = search indexing-all
