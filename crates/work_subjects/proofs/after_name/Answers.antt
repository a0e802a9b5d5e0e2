-- `work_subjects::after_name` meets its contract: what the end of a name leaves, and nothing after one that is left open.
use Rattle.work_subjects.proofs.CharsLaws.{after-closed, after_open}
use Rattle.work_subjects.proofs.after_name.Goals as goal

pub returns-in-Some : goal.returns-in-Some
returns-in-Some c = search after-closed

pub returns-in-None : goal.returns-in-None
returns-in-None c = search after_open
