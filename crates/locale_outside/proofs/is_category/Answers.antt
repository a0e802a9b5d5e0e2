-- `locale_outside::is_category` meets its contract: how the word begins, then its length.
use Rattle.std.proofs.Common.{◌≤◌, ◌∙◌, arith}
use Rattle.rules.specs.Text.{bytes}
use Rattle.locale_outside.proofs.CategoryLaws.{category-other, category-mixed, category-long, category-short, category-word}
use Rattle.locale_outside.proofs.is_category.Goals as goal

pub returns-in-Some-4-to-32 : goal.returns-in-Some-4-to-32
unfolding bytes
returns-in-Some-4-to-32 c =
    let low : 4 ≤ c.in-Some-4-to-32.field-0 = omega arith in
    let high : c.in-Some-4-to-32.field-0 ≤ 32 = omega arith in
    search category-word

pub returns-in_default : goal.returns-in_default
unfolding bytes
returns-in_default c = search (category-short, category-long)

pub returns-in_default-2 : goal.returns-in_default-2
unfolding bytes
returns-in_default-2 c = search (category-short, category-long)

pub returns-in_default-3 : goal.returns-in_default-3
unfolding bytes
returns-in_default-3 c = search category-mixed

pub returns-else-word_begins : goal.returns-else-word_begins
unfolding bytes
returns-else-word_begins c = c.if-word_begins.false ∙ category-other _ c.word_begins.ensures c.if-word_begins.false
