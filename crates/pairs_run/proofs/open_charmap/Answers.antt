-- `pairs_run::open_charmap` meets its contract: the line of a refused file, or the heading.
use Rattle.pairs_run.proofs.OpenLaws.{charmap-closed, charmap-opens}
use Rattle.pairs_run.proofs.open_charmap.Goals as goal

pub returns-in-Err : goal.returns-in-Err
returns-in-Err c = search charmap-closed

pub returns-in-Ok : goal.returns-in-Ok
returns-in-Ok c = search charmap-opens
