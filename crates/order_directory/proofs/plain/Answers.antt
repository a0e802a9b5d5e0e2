-- `order_directory::plain` meets its contract: the rule of the first level says so.
use Rattle.order_directory.proofs.PageLaws.{first-level, backward-first, forward-first}
use Rattle.order_directory.proofs.plain.Goals as goal

pub rule_of-rule-requires : goal.rule_of-rule-requires
rule_of-rule-requires c = search first-level

pub returns-else-not-rule : goal.returns-else-not-rule
returns-else-not-rule c = search backward-first

pub returns-then-not-rule : goal.returns-then-not-rule
returns-then-not-rule c = search forward-first
