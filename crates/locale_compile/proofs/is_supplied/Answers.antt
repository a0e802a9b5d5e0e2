-- `locale_compile::is_supplied` meets its contract: the place in the row of UNDEFINED.
use Rattle.locale_compile.proofs.CallLaws.{same-zero}
use Rattle.locale_compile.proofs.is_supplied.Goals as goal

pub returns : goal.returns
returns c = search same-zero
