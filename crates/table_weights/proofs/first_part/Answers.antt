-- `table_weights::first_part` meets its contract: no operand, or those after the blanks.
use Rattle.table_weights.proofs.PartLaws.{starts_none, starts-broken, starts-some}
use Rattle.table_weights.proofs.first_part.Goals as goal

pub returns-in-None : goal.returns-in-None
returns-in-None c = search starts_none

pub returns-in-Broken : goal.returns-in-Broken
returns-in-Broken c = search starts-broken

pub returns-in-Operands : goal.returns-in-Operands
returns-in-Operands c = search starts-some
