-- `work_toggles::find_toggle` meets its contract: the candidate has the word, or none.
use Rattle.work_toggles.proofs.FindLaws.{find-inside, find-hit, find-miss, find_none}
use borrow.Author.Rules.{rules}
use Rattle.work_toggles.proofs.find_toggle.Goals as goal
use Rattle.work_toggles.proofs.find_toggle.Goals.{else-c-n-via-then-c-n+else-has_label, else-c-n-via-else-c-n}

pub has_label-requires : goal.has_label-requires
has_label-requires c = (search find-inside, search rules)

pub returns-then-has_label : goal.returns-then-has_label
returns-then-has_label c = search find-hit

pub returns-else-c-n : goal.returns-else-c-n
returns-else-c-n c = elim c.else-c-n.branch [ else-c-n-via-then-c-n+else-has_label w ↦ search find-miss | else-c-n-via-else-c-n w ↦ search find_none ]
