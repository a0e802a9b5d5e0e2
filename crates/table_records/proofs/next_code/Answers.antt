-- `table_records::next_code` meets its contract.
use Rattle.table_records.proofs.ItemLaws.{code-next, code-end}
use Rattle.table_records.proofs.next_code.Goals as goal

pub returns-in-Some : goal.returns-in-Some
returns-in-Some c = search code-next

pub returns-in-None : goal.returns-in-None
returns-in-None c = search code-end
