-- `locale_levels::rule_number` meets its contract: the number of each rule.
use Rattle.std.proofs.Common.{rules}
use Rattle.rules.specs.Table.{rule_number}
use Rattle.locale_levels.proofs.rule_number.Goals as goal

pub returns-in-Some-Backward : goal.returns-in-Some-Backward
unfolding rule_number
returns-in-Some-Backward c = search rules

pub returns-in-Some-Position : goal.returns-in-Some-Position
unfolding rule_number
returns-in-Some-Position c = search rules

pub returns-in-Some-BackwardPosition : goal.returns-in-Some-BackwardPosition
unfolding rule_number
returns-in-Some-BackwardPosition c = search rules

pub returns-in-Some-Forward : goal.returns-in-Some-Forward
unfolding rule_number
returns-in-Some-Forward c = search rules

pub returns-in-Some-Forward-2 : goal.returns-in-Some-Forward-2
unfolding rule_number
returns-in-Some-Forward-2 c = search rules
