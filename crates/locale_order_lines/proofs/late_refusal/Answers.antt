-- `locale_order_lines::late_refusal` meets its contract: a law for each way to return.
use Rattle.locale_order_lines.proofs.OwnLaws.{late-again, late-none, late-full, late-many, late-missing}
use Rattle.locale_order_lines.proofs.late_refusal.Goals.{else-operands-levels-via-then-operands-levels+else-room, else-operands-levels-via-else-operands-levels}
use Rattle.locale_order_lines.proofs.late_refusal.Goals as goal

pub returns-then-again : goal.returns-then-again
returns-then-again c = search late-again

pub returns-then-not-stands : goal.returns-then-not-stands
returns-then-not-stands c = search late-missing

pub returns-then-room : goal.returns-then-room
returns-then-room c = search late-none

pub returns-else-operands-levels : goal.returns-else-operands-levels
returns-else-operands-levels c =
    elim c.else-operands-levels.branch [ else-operands-levels-via-then-operands-levels+else-room w ↦ search late-full | else-operands-levels-via-else-operands-levels w ↦ search late-many ]
