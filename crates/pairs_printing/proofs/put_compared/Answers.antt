-- `pairs_printing::put_compared` meets its contract: the number, the sign, the level, the count, and LF.
use Rattle.pairs_printing.proofs.LineLaws.{compared-prints}
use Rattle.pairs_printing.proofs.put_compared.Goals as goal

pub returns : goal.returns
returns c = search compared-prints
