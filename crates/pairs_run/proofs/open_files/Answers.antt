-- `pairs_run::open_files` meets its contract: the line of a refused locale, or what is printed of the charmap.
use Rattle.pairs_run.proofs.OpenLaws.{files-closed, files-open}
use Rattle.pairs_run.proofs.open_files.Goals as goal

pub returns-in-Err : goal.returns-in-Err
returns-in-Err c = search files-closed

pub returns-in-Ok : goal.returns-in-Ok
returns-in-Ok c = search files-open
