-- `locale_declarations::element_step` meets its contract: a law for each answer.
use Rattle.std.proofs.Common.{◌≡◌, Ok, Err}
use Rattle.std.proofs.lemmas.Result.{err_from_is_err_and}
use Rattle.locale_declarations.proofs.DeclaringLaws.{foul-step, misplaced-step, refused-step}
use Rattle.locale_declarations.proofs.ElementLaws.{element-declaring, element-done}
use Rattle.locale_declarations.proofs.element_step.Goals as goal

pub returns-in_err-element_line : goal.returns-in_err-element_line
returns-in_err-element_line c =
    let p = err_from_is_err_and c.from_residual.result c.from_residual.ensures.1 in
    rw (p.1, p.2) (refused-step element-declaring _ _ _ _ _ c.requires.opened _ _ _ c.may_declare.ensures c.if-may_declare.true c.if-l.true c.element_line.ensures c.in_err-element_line.was)

pub returns-in_ok-element_line : goal.returns-in_ok-element_line
returns-in_ok-element_line c = element-done _ _ _ _ _ c.requires.opened _ _ _ c.may_declare.ensures c.if-may_declare.true c.if-l.true c.element_line.ensures c.in_ok-element_line.was

pub returns-else-l : goal.returns-else-l
returns-else-l c = search foul-step

pub returns-else-may_declare : goal.returns-else-may_declare
returns-else-may_declare c = search (misplaced-step element-declaring)
