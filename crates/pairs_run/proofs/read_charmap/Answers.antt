-- `pairs_run::read_charmap` meets its contract: a file that is too long is refused, any other is read.
use Rattle.pairs_run.proofs.OpenLaws.{charmap-long, charmap-read}
use Rattle.pairs_run.proofs.read_charmap.Goals as goal

pub returns-then-src-gt8192 : goal.returns-then-src-gt8192
returns-then-src-gt8192 c = search charmap-long

pub returns : goal.returns
returns c = search charmap-read
