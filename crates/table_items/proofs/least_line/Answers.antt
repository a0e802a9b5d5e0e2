-- `table_items::least_line` meets its contract.
use Rattle.table_items.proofs.SumLaws.{least-here}
use Rattle.table_items.proofs.least_line.Goals as goal

pub returns-else-ranked : goal.returns-else-ranked
returns-else-ranked c = search least-here
