-- `table_records::write_quoted` meets its contract: the characters one by one, and padding where none is left.
use Rattle.table_records.proofs.ItemLaws.{four-quoted}
use Rattle.table_records.proofs.write_quoted.Goals as goal

pub returns : goal.returns
returns c = search four-quoted
