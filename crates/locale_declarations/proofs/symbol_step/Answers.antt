-- `locale_declarations::symbol_step` meets its contract: a law for each answer.
use Rattle.std.proofs.Common.{◌≡◌, Ok, Err}
use Rattle.std.proofs.lemmas.Result.{err_from_is_err_and}
use Rattle.locale_declarations.proofs.DeclaringLaws.{foul-step, misplaced-step, refused-step}
use Rattle.locale_declarations.proofs.SymbolLaws.{symbol-declaring, symbol-done}
use Rattle.locale_declarations.proofs.symbol_step.Goals as goal

pub returns-in_err-symbol_line : goal.returns-in_err-symbol_line
returns-in_err-symbol_line c =
    let p = err_from_is_err_and c.from_residual.result c.from_residual.ensures.1 in
    rw (p.1, p.2) (refused-step symbol-declaring _ _ _ _ _ c.requires.opened _ _ _ c.may_declare.ensures c.if-may_declare.true c.if-l.true c.symbol_line.ensures c.in_err-symbol_line.was)

pub returns-in_ok-symbol_line : goal.returns-in_ok-symbol_line
returns-in_ok-symbol_line c = symbol-done _ _ _ _ _ c.requires.opened _ _ _ c.may_declare.ensures c.if-may_declare.true c.if-l.true c.symbol_line.ensures c.in_ok-symbol_line.was

pub returns-else-l : goal.returns-else-l
returns-else-l c = search foul-step

pub returns-else-may_declare : goal.returns-else-may_declare
returns-else-may_declare c = search (misplaced-step symbol-declaring)
