-- `pairs_printing::put_number` meets its contract: a number has 20 places at most.
use Rattle.pairs_printing.proofs.LineLaws.{number-prints}
use Rattle.pairs_printing.proofs.put_number.Goals as goal

pub returns : goal.returns
returns c = search number-prints
