-- `work_subjects::char_at` meets its contract: the code of a name that is shaped as a character, or 0.
use Rattle.work_subjects.proofs.SubjectLaws.{char-or_none}
use Rattle.work_subjects.proofs.char_at.Goals as goal

pub returns : goal.returns
returns c = search char-or_none
