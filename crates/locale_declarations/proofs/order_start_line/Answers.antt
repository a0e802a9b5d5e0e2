-- `locale_declarations::order_start_line` meets its contract: a law for each answer.
use Rattle.locale_declarations.proofs.StartLaws.{start-low, start-refused, start-done, start-foul, start-misplaced}
use Rattle.locale_declarations.proofs.order_start_line.Goals as goal

pub refusal_with-requires : goal.refusal_with-requires
refusal_with-requires c = search start-low

pub returns-in-Err : goal.returns-in-Err
returns-in-Err c = search start-refused

pub returns-then-l : goal.returns-then-l
returns-then-l c = search start-done

pub returns-else-l : goal.returns-else-l
returns-else-l c = search start-foul

pub returns-else-sh-eq-BEFORE_ORDER : goal.returns-else-sh-eq-BEFORE_ORDER
returns-else-sh-eq-BEFORE_ORDER c = search start-misplaced
