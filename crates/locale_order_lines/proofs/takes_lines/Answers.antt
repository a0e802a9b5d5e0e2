-- `locale_order_lines::takes_lines` meets its contract: a law for each way to return.
use Rattle.locale_order_lines.proofs.OwnLaws.{takes-order, takes-block}
use Rattle.locale_order_lines.proofs.takes_lines.Goals as goal

pub returns-then-phase-eq-IN_ORDER : goal.returns-then-phase-eq-IN_ORDER
returns-then-phase-eq-IN_ORDER c = search takes-order

pub returns-else-phase-eq-IN_ORDER : goal.returns-else-phase-eq-IN_ORDER
returns-else-phase-eq-IN_ORDER c = search takes-block
