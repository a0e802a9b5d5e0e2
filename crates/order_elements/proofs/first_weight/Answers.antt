-- `order_elements::first_weight` meets its contract: the first of the level's entries has the weight, or there is none.
use Rattle.order_elements.proofs.FirstLaws.{uncut, leading_at, leading-none}
use borrow.Author.Rules.{rules}
use Rattle.order_elements.proofs.first_weight.Goals as goal

pub next_element-requires : goal.next_element-requires
next_element-requires c = search (rules, uncut)

pub returns-in-One : goal.returns-in-One
returns-in-One c = search leading_at

pub returns-in-End : goal.returns-in-End
returns-in-End c = search leading-none
