-- `table_weights::part_of` meets its contract.
use Rattle.table_weights.proofs.PartLaws.{part-name, part-quotes, part_none}
use Rattle.table_weights.proofs.part_of.Goals as goal

pub returns-in-5 : goal.returns-in-5
returns-in-5 c = search part-name

pub returns-in-6 : goal.returns-in-6
returns-in-6 c = search part-quotes

pub returns-in_default : goal.returns-in_default
returns-in_default c = search part_none
