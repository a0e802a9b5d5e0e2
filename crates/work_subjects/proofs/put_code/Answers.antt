-- `work_subjects::put_code` meets its contract.
use Rattle.work_subjects.proofs.NumberLaws.{code_put, code-many, code-strange, code-bad}
use Rattle.work_subjects.proofs.put_code.Goals as goal

pub returns-in-Some : goal.returns-in-Some
returns-in-Some c = search code_put

pub returns-in_default : goal.returns-in_default
returns-in_default c = search (code-many, code-strange, code-bad)
