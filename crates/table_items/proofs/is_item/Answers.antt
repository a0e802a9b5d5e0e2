-- `table_items::is_item` meets its contract, for UNDEFINED, a symbol, and an element or a character.
use Rattle.table_records.proofs.ItemLaws.{chars-row}
use Rattle.table_items.proofs.LineLaws.{item-undefined, item-told}
use native.Mathlib.Omega.{arith}
use borrow.Author.Rules.{rules}
use borrow.Author.Tests.{tests, not-true, not-false}
use Rattle.table_items.proofs.is_item.Goals as goal

pub returns-then-mark-undefined_mark : goal.returns-then-mark-undefined_mark
returns-then-mark-undefined_mark c = search item-undefined

pub told-requires : goal.told-requires
told-requires c = search (rules, chars-row)

pub returns-else-mark-undefined_mark : goal.returns-else-mark-undefined_mark
returns-else-mark-undefined_mark c =
    item-told _ _ _ c.undefined_mark.ensures c.if-mark-undefined_mark.false c.told.ensures (λ t. grind (arith, tests, not-true)) (λ t. grind (arith, tests, not-false))
