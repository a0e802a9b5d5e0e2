-- `table_whole::write_head` meets its contract.
use borrow.Author.Rules.{rules}
use Rattle.table_whole.proofs.BuildLaws.{head-front, head-rules, head-written}
use Rattle.table_whole.proofs.write_head.Goals as goal

pub write_front-requires : goal.write_front-requires
write_front-requires c = (search head-front, search rules)

pub write_rules-requires : goal.write_rules-requires
write_rules-requires c = record { at_in_bounds = search rules; rules_fit = search head-rules }

pub returns : goal.returns
returns c = search head-written
