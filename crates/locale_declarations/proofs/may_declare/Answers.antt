-- `locale_declarations::may_declare` meets its contract.
use Rattle.locale_declarations.proofs.PhaseLaws.{may-before, may-after}
use Rattle.locale_declarations.proofs.may_declare.Goals as goal

pub returns-then-phase-eq-BEFORE_ORDER : goal.returns-then-phase-eq-BEFORE_ORDER
returns-then-phase-eq-BEFORE_ORDER c = search may-before

pub returns-else-phase-eq-BEFORE_ORDER : goal.returns-else-phase-eq-BEFORE_ORDER
returns-else-phase-eq-BEFORE_ORDER c = search may-after
