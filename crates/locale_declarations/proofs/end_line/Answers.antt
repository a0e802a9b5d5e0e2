-- `locale_declarations::end_line` meets its contract: a law for each answer.
use Rattle.locale_declarations.proofs.EndLaws.{end-done, end-foul, end-other, end-inside, end-misplaced}
use Rattle.locale_declarations.proofs.end_line.Goals.{else-sh-eq-AFTER_ORDER-via-then-sh-eq-AFTER_ORDER+then-l-eq0+else-collate_alone, else-sh-eq-AFTER_ORDER-via-then-sh-eq-AFTER_ORDER+else-l-eq0, else-sh-eq-AFTER_ORDER-via-else-sh-eq-AFTER_ORDER}
use Rattle.locale_declarations.proofs.end_line.Goals as goal

pub returns-then-l : goal.returns-then-l
returns-then-l c = search end-done

pub returns-else-l : goal.returns-else-l
returns-else-l c = search end-foul

pub returns-else-sh-eq-AFTER_ORDER : goal.returns-else-sh-eq-AFTER_ORDER
returns-else-sh-eq-AFTER_ORDER c = elim c.else-sh-eq-AFTER_ORDER.branch [ else-sh-eq-AFTER_ORDER-via-then-sh-eq-AFTER_ORDER+then-l-eq0+else-collate_alone w ↦ search end-other | else-sh-eq-AFTER_ORDER-via-then-sh-eq-AFTER_ORDER+else-l-eq0 w ↦ search end-inside | else-sh-eq-AFTER_ORDER-via-else-sh-eq-AFTER_ORDER w ↦ search end-misplaced ]
