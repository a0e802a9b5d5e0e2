-- `locale_moves::may_open` meets its contract.
use Rattle.locale_moves.proofs.NamedLaws.{opens-after, opens-inside}
use Rattle.locale_moves.proofs.may_open.Goals as goal

pub returns-then-phase-eq-AFTER_ORDER : goal.returns-then-phase-eq-AFTER_ORDER
returns-then-phase-eq-AFTER_ORDER c = search opens-after

pub returns-else-phase-eq-AFTER_ORDER : goal.returns-else-phase-eq-AFTER_ORDER
returns-else-phase-eq-AFTER_ORDER c = search opens-inside
