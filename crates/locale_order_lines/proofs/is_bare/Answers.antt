-- `locale_order_lines::is_bare` meets its contract: a law for each way to return.
use borrow.Author.Rules.{rules}
use Rattle.locale_order_lines.proofs.FactLaws.{row-there, bare-is, bare-none}
use Rattle.locale_order_lines.proofs.is_bare.Goals as goal

pub told-requires : goal.told-requires
told-requires c = (search rules, search row-there)

pub returns-in-Some : goal.returns-in-Some
returns-in-Some c = search bare-is

pub returns-in-None : goal.returns-in-None
returns-in-None c = search bare-none
