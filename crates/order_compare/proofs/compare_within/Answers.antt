-- `order_compare::compare_within` meets its contract: the rule of the first level says which way.
use Rattle.order_compare.proofs.CallLaws.{first-ready, second-ready, first-level, first-forward}
use Rattle.order_compare.proofs.compare_within.Goals as goal

pub rule_of-rule-requires : goal.rule_of-rule-requires
rule_of-rule-requires c = search first-level

pub compare_split-requires : goal.compare_split-requires
compare_split-requires c = search (first-ready, second-ready)

pub compare_forward-requires : goal.compare_forward-requires
compare_forward-requires c = search (first-ready, second-ready, first-forward)
