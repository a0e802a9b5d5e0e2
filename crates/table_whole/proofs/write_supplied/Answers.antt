-- `table_whole::write_supplied` meets its contract.
use Rattle.table_whole.proofs.FrontLaws.{supplied-written}
use Rattle.table_whole.proofs.write_supplied.Goals as goal

pub returns : goal.returns
returns c = search supplied-written
