-- `order_elements::certain` meets its contract: a character that is an item whatever follows it tells, and so do four characters.
use Rattle.order_elements.proofs.CommonLaws.{certain-inside, certain-character, certain-quick, certain-four}
use native.Mathlib.Omega.{arith}
use borrow.Author.Rules.{rules}
use Rattle.order_elements.proofs.certain.Goals as goal

pub quick-requires : goal.quick-requires
quick-requires c = search (rules, certain-character)

pub returns-in-Some : goal.returns-in-Some
returns-in-Some c = certain-quick _ _ _ _ c.requires.t_value.0 c.requires.left_nonzero.0 c.requires.left_nonzero.1 c.in-Some.ensures

pub search-requires : goal.search-requires
search-requires c = search (rules, certain-inside)

pub returns-then-left-ge4 : goal.returns-then-left-ge4
returns-then-left-ge4 c =
    certain-four _ _ _ _ c.requires.t_value.0 c.requires.left_nonzero.0 c.requires.left_nonzero.1 (omega (arith, c.if-left-ge4.true)) c.search.ensures
