-- `pairs_printing::put_field` meets its contract: a blank, and behind it the number.
use Rattle.pairs_printing.proofs.LineLaws.{field-prints}
use Rattle.pairs_printing.proofs.put_field.Goals as goal

pub returns : goal.returns
returns c = search field-prints
