-- `locale_moves::reorder_end_line` meets its contract: a law for each answer.
use Rattle.locale_moves.proofs.EndLaws.{end-done, end-foul, end_more, end-misplaced}
use Rattle.locale_moves.proofs.reorder_end_line.Goals.{else-sh-eq-IN_BLOCK-via-then-sh-eq-IN_BLOCK+else-no_operand, else-sh-eq-IN_BLOCK-via-else-sh-eq-IN_BLOCK}
use Rattle.locale_moves.proofs.reorder_end_line.Goals as goal

pub returns-then-l : goal.returns-then-l
returns-then-l c = search end-done

pub returns-else-l : goal.returns-else-l
returns-else-l c = search end-foul

pub returns-else-sh-eq-IN_BLOCK : goal.returns-else-sh-eq-IN_BLOCK
returns-else-sh-eq-IN_BLOCK c = elim c.else-sh-eq-IN_BLOCK.branch [ else-sh-eq-IN_BLOCK-via-then-sh-eq-IN_BLOCK+else-no_operand w ↦ search end_more | else-sh-eq-IN_BLOCK-via-else-sh-eq-IN_BLOCK w ↦ search end-misplaced ]
