-- `work_subjects::subject_numbers` meets its contract: those of a character, or those of a name.
use Rattle.work_subjects.proofs.NumberLaws.{numbers-char, numbers-name}
use Rattle.work_subjects.proofs.subject_numbers.Goals as goal

pub returns-in-Some : goal.returns-in-Some
returns-in-Some c = search numbers-char

pub returns-in-None : goal.returns-in-None
returns-in-None c = search numbers-name
