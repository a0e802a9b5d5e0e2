-- `pairs_printing::put_refused` meets its contract: the number, ` refused `, the refusal's number, and LF.
use Rattle.pairs_printing.proofs.LineLaws.{refused-prints}
use Rattle.pairs_printing.proofs.put_refused.Goals as goal

pub returns : goal.returns
returns c = search refused-prints
