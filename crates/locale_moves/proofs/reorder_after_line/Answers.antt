-- `locale_moves::reorder_after_line` meets its contract: a law for each answer.
use Rattle.locale_moves.proofs.AfterLaws.{after-low, after-refused, after-done, after-foul, after-misplaced}
use Rattle.locale_moves.proofs.reorder_after_line.Goals as goal

pub refusal_with-requires : goal.refusal_with-requires
refusal_with-requires c = search after-low

pub returns-in-Err : goal.returns-in-Err
returns-in-Err c = search after-refused

pub returns-then-l : goal.returns-then-l
returns-then-l c = search after-done

pub returns-else-l : goal.returns-else-l
returns-else-l c = search after-foul

pub returns-else-may_open : goal.returns-else-may_open
returns-else-may_open c = search after-misplaced
