-- `pairs_printing::put_file` meets its contract: the name, the two numbers, and LF.
use Rattle.pairs_printing.proofs.LineLaws.{file-prints}
use Rattle.pairs_printing.proofs.put_file.Goals as goal

pub returns : goal.returns
returns c = search file-prints
