-- `locale_outside::category_line` meets its contract: LC_COLLATE once, or another category.
use Rattle.std.proofs.Common.{◌≡◌, false}
use Rattle.rules.specs.Text.{bytes, is}
use Rattle.locale_outside.proofs.PlainLaws.{category-twice, category-once, not_both}
use Rattle.locale_outside.proofs.category_line.Goals as goal

pub returns-then-collated : goal.returns-then-collated
unfolding is bytes
returns-then-collated c = λ before. search category-twice

pub returns-else-collate : goal.returns-else-collate
unfolding is bytes
returns-else-collate c = λ before. let e = not_both c.else-collate.either in search category-once
