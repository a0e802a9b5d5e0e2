-- `locale_levels::levels_of` meets its contract.
use Rattle.text_operands.proofs.AfterLaws.{after-plain}
use Rattle.locale_levels.proofs.LevelLaws.{after_none, after-broken, after-levels}
use Rattle.locale_levels.proofs.levels_of.Goals as goal

pub returns-in-None : goal.returns-in-None
returns-in-None c = search after_none

pub returns-in-Broken : goal.returns-in-Broken
returns-in-Broken c = search after-broken

pub levels_left-requires : goal.levels_left-requires
levels_left-requires c = after-plain c.args.src.signs c.args.src.bytes.now c.args.p {a = c.after_first.result} c.after_first.ensures c.in-Operands.is

pub returns-in-Operands : goal.returns-in-Operands
returns-in-Operands c = search after-levels
