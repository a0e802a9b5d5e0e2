-- `locale_standing::stands_at` meets its contract: a law for each way to return.
use borrow.Author.Rules.{rules}
use Rattle.locale_standing.proofs.StandLaws.{stands_char, stands-found}
use Rattle.locale_standing.proofs.stands_at.Goals as goal

pub returns-in-Some : goal.returns-in-Some
returns-in-Some c = search stands_char

pub returns-in-None : goal.returns-in-None
returns-in-None c = search (stands-found, rules)
