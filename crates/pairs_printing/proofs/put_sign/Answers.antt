-- `pairs_printing::put_sign` meets its contract: a blank, and behind it the sign.
use Rattle.pairs_printing.proofs.LineLaws.{sign-put}
use Rattle.pairs_printing.proofs.put_sign.Goals as goal

pub returns : goal.returns
returns c = search sign-put
