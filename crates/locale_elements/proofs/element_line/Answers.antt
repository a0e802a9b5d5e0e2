-- `locale_elements::element_line` meets its contract: both marks are declared, or the area stays.
use mathlib.Core.Path.{refl}
use borrow.Author.Rules.{rules}
use Rattle.std.proofs.lemmas.Result.{err_from_is_err_and}
use Rattle.locale_elements.proofs.ElementLaws.{element-not, element-marks, name-within, quotes-within, quotes-later}
use Rattle.locale_symbols.proofs.SymbolLaws.{sound-roomy}
use Rattle.locale_elements.proofs.element_line.Goals as goal

pub returns-in_err-v : goal.returns-in_err-v
returns-in_err-v c =
    let p = err_from_is_err_and c.from_residual.result c.from_residual.ensures.1 in
    let e = c.in_err-v.was in
    rw (p.1, p.2) (search element-not, refl)

pub declare_both-requires : goal.declare_both-requires
declare_both-requires c =
    let e = c.in_ok-v.was in
    record { v_in_bounds = (search name-within, search quotes-within, search quotes-later); roomy = search sound-roomy }

pub returns : goal.returns
returns c = let e = c.in_ok-v.was in (search element-marks, search rules)
