-- `table_whole::supply` meets its contract.
use Rattle.table_whole.proofs.FrontLaws.{supply-written}
use Rattle.table_whole.proofs.supply.Goals as goal

pub returns : goal.returns
returns c = search supply-written
