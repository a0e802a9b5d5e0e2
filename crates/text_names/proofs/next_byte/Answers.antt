use Rattle.text_names.proofs.CompareLaws.{step-close, step-open}
use Rattle.text_names.proofs.next_byte.Goals as goal

pub returns-in-Close : goal.returns-in-Close
returns-in-Close c = search step-close

pub returns-in-Open : goal.returns-in-Open
returns-in-Open c = search step-open
