-- `order_compare::compare` meets its contract: one law for each return.
use Rattle.order_compare.proofs.CallLaws.{compare-table, compare-first-string, compare-second-string, compare-answer}
use Rattle.order_compare.proofs.compare.Goals as goal
use Rattle.order_compare.proofs.compare.Goals.{then-not-good_string-via-then-not-good_string, then-not-good_string-via-else-not-good_string+then-not-good_string-2}

pub returns-then-not-accepts : goal.returns-then-not-accepts
returns-then-not-accepts c = search compare-table

pub returns-then-not-good_string : goal.returns-then-not-good_string
returns-then-not-good_string c =
    elim c.then-not-good_string.branch [
      | then-not-good_string-via-then-not-good_string w ↦ search compare-first-string
      | then-not-good_string-via-else-not-good_string+then-not-good_string-2 w ↦ search compare-second-string
    ]

pub returns : goal.returns
returns c = search compare-answer
