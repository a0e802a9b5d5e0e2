-- `locale_category::category_lines` meets its contract: a law for each end of the block.
use Rattle.std.proofs.Common.{◌≡◌, Ok, Err}
use Rattle.std.proofs.lemmas.Result.{err_from_is_err_and}
use Rattle.locale_category.proofs.BlockLaws.{answered}
use Rattle.locale_category.proofs.CategoryLaws.{category-place, category-starts, category-closed, category-refused, category-stray}
use Rattle.locale_category.proofs.category_lines.Goals as goal

pub block-requires : goal.block-requires
block-requires c = (search category-starts, search category-place)

pub returns-in_err-s : goal.returns-in_err-s
returns-in_err-s c =
    let p = err_from_is_err_and c.from_residual.result c.from_residual.ensures.1 in
    let q : c.block.result ≡ Err c.in_err-s.field-0.0 = c.in_err-s.was in
    rw (p.1, p.2) (search category-refused)

pub returns-in-Closed : goal.returns-in-Closed
returns-in-Closed c = let e = answered c.in_ok-s.was c.in-Closed.is in search category-closed

pub returns-in-Branch : goal.returns-in-Branch
returns-in-Branch c = let e = answered c.in_ok-s.was c.in-Branch.is in search category-stray
