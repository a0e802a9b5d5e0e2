-- `locale_symbols::is_new` meets its contract: a law for each answer.
use borrow.Author.Rules.{rules}
use Rattle.locale_symbols.proofs.NewLaws.{new-shaped-as, new-unshaped}
use Rattle.locale_symbols.proofs.is_new.Goals as goal

pub returns-then-is_none : goal.returns-then-is_none
returns-then-is_none c = search (new-unshaped, rules)

pub returns-else-is_none : goal.returns-else-is_none
returns-else-is_none c = search new-shaped-as
