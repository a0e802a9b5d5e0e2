-- `locale_declarations::order_end_line` meets its contract: a law for each answer.
use Rattle.locale_declarations.proofs.EndLaws.{order-end-done, order-end-foul, order-end-more, order-end-misplaced}
use Rattle.locale_declarations.proofs.order_end_line.Goals.{else-sh-eq-IN_ORDER-via-then-sh-eq-IN_ORDER+else-no_operand, else-sh-eq-IN_ORDER-via-else-sh-eq-IN_ORDER}
use Rattle.locale_declarations.proofs.order_end_line.Goals as goal

pub returns-then-l : goal.returns-then-l
returns-then-l c = search order-end-done

pub returns-else-l : goal.returns-else-l
returns-else-l c = search order-end-foul

pub returns-else-sh-eq-IN_ORDER : goal.returns-else-sh-eq-IN_ORDER
returns-else-sh-eq-IN_ORDER c = elim c.else-sh-eq-IN_ORDER.branch [ else-sh-eq-IN_ORDER-via-then-sh-eq-IN_ORDER+else-no_operand w ↦ search order-end-more | else-sh-eq-IN_ORDER-via-else-sh-eq-IN_ORDER w ↦ search order-end-misplaced ]
