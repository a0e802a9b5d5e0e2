-- `locale_symbols::symbol_line` meets its contract: the mark is declared, or the area stays.
use mathlib.Core.Path.{refl}
use Rattle.std.proofs.lemmas.Result.{err_from_is_err_and}
use Rattle.locale_symbols.proofs.SymbolLaws.{symbol-refused, symbol-mark, symbol-within, sound-roomy}
use borrow.Author.Rules.{rules}
use Rattle.locale_symbols.proofs.symbol_line.Goals as goal

pub returns-in_err-v : goal.returns-in_err-v
returns-in_err-v c =
    let p = err_from_is_err_and c.from_residual.result c.from_residual.ensures.1 in
    let e = c.in_err-v.was in
    rw (p.1, p.2) (search symbol-refused, refl)

pub declare-requires : goal.declare-requires
declare-requires c = let e = c.in_ok-v.was in record { v_in_bounds = search symbol-within; roomy = search sound-roomy }

pub returns : goal.returns
returns c = let e = c.in_ok-v.was in (search symbol-mark, search rules)
