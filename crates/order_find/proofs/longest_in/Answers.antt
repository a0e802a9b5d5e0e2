-- `order_find::longest_in` meets its contract: a character that is an item whatever follows it is the element; else it is searched for.
use Rattle.order_find.proofs.QuickLaws.{shaped-indexed, quick-character, quick-stands}
use borrow.Author.Rules.{rules}
use Rattle.order_find.proofs.longest_in.Goals as goal

pub quick_in-requires : goal.quick_in-requires
quick_in-requires c = search (rules, quick-character, shaped-indexed)

pub returns-in-Some : goal.returns-in-Some
returns-in-Some c = quick-stands _ _ c.requires.at_in_bounds c.in-Some.ensures
