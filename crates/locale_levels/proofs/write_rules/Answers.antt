-- `locale_levels::write_rules` meets its contract.
use Rattle.text_operands.proofs.AfterLaws.{after-plain}
use Rattle.locale_levels.proofs.WriteLaws.{rules-none-inside, rules-none, rules-broken, rules-empty-inside, rules-empty, rules-fit, rules-written}
use Rattle.locale_levels.proofs.write_rules.Goals as goal

pub bounds-area-at : goal.bounds-area-at
bounds-area-at c = search rules-none-inside

pub returns-in-None : goal.returns-in-None
returns-in-None c = search rules-none

pub returns-in-Broken : goal.returns-in-Broken
returns-in-Broken c = search rules-broken

pub none_left-requires : goal.none_left-requires
none_left-requires c = after-plain _ _ _ {a = c.after_first.result} c.after_first.ensures c.in-Operands.is

pub bounds-area-at-then-none_left : goal.bounds-area-at-then-none_left
bounds-area-at-then-none_left c = search rules-empty-inside

pub returns-then-none_left : goal.returns-then-none_left
returns-then-none_left c = search rules-empty

pub write_left-requires : goal.write_left-requires
write_left-requires c = record { at_in_bounds = after-plain _ _ _ {a = c.after_first.result} c.after_first.ensures c.in-Operands.is; left_fits = search rules-fit }

pub returns-else-none_left : goal.returns-else-none_left
returns-else-none_left c = search rules-written
