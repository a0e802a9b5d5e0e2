-- `order_compare::step` meets its contract: one law for each return.
use Rattle.order_compare.proofs.CallLaws.{step-table, step-string, step_past, step-found, step-checked, step-characters}
use Rattle.order_compare.proofs.step.Goals as goal

pub returns-then-not-accepts : goal.returns-then-not-accepts
returns-then-not-accepts c = search step-table

pub returns-then-not-good_string : goal.returns-then-not-good_string
returns-then-not-good_string c = search step-string

pub longest-found-requires : goal.longest-found-requires
longest-found-requires c = search (step-checked, step-characters)

pub returns-then-at-s : goal.returns-then-at-s
returns-then-at-s c = search step-found

pub returns-else-at-s : goal.returns-else-at-s
returns-else-at-s c = search step_past
