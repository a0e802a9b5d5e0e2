-- `order_compare::compare_last` meets its contract: one law for each sign.
use Rattle.order_compare.proofs.LevelLaws.{last-settled, last-equal}
use Rattle.order_compare.proofs.compare_last.Goals as goal

pub returns-in-Equal : goal.returns-in-Equal
returns-in-Equal c = search last-equal

pub returns-in_default : goal.returns-in_default
returns-in_default c = search last-settled
