-- `locale_order_lines::is_own` meets its contract: a law for each way to return.
use borrow.Author.Rules.{rules}
use Rattle.locale_order_lines.proofs.FactLaws.{row-there, own-named, own-late, own-none}
use Rattle.locale_order_lines.proofs.is_own.Goals as goal

pub returns-then-v-b : goal.returns-then-v-b
returns-then-v-b c = search own-named

pub told-requires : goal.told-requires
told-requires c = (search rules, search row-there)

pub returns-else-v-b : goal.returns-else-v-b
returns-else-v-b c = search own-late

pub returns-in-None : goal.returns-in-None
returns-in-None c = search own-none
