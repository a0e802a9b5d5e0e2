-- `locale_order_lines::is_again` meets its contract: a law for each way to return.
use Rattle.locale_order_lines.proofs.FactLaws.{again-block, again-else}
use Rattle.locale_order_lines.proofs.is_again.Goals as goal

pub returns-then-sh-eq-IN_BLOCK : goal.returns-then-sh-eq-IN_BLOCK
returns-then-sh-eq-IN_BLOCK c = search again-block

pub returns-else-sh-eq-IN_BLOCK : goal.returns-else-sh-eq-IN_BLOCK
returns-else-sh-eq-IN_BLOCK c = search again-else
