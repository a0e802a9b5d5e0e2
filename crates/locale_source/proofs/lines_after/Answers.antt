-- `locale_source::lines_after` meets its contract: a law for each answer.
use Rattle.std.proofs.Common.{◌≡◌, Ok, Err}
use Rattle.std.proofs.lemmas.Result.{err_from_is_err_and}
use Rattle.locale_source.proofs.AfterLaws.{answered, after-collate, after-early, after-whole, after-refused}
use Rattle.locale_source.proofs.lines_after.Goals as goal

pub returns-in_err-n : goal.returns-in_err-n
returns-in_err-n c =
    let p = err_from_is_err_and c.from_residual.result c.from_residual.ensures.1 in
    let e : c.outer_lines.result ≡ Err c.in_err-n.field-0.0 = c.in_err-n.was in
    rw (p.1, p.2) (search after-refused)

pub returns-in-Collate : goal.returns-in-Collate
returns-in-Collate c =
    let e = answered (c.in_ok-n.was) c.in-Collate.is in
    search after-collate

pub returns-then-first : goal.returns-then-first
returns-then-first c =
    let e = answered (c.in_ok-n.was) c.in-End.is in
    search after-early

pub returns-else-first : goal.returns-else-first
returns-else-first c =
    let e = answered (c.in_ok-n.was) c.in-End.is in
    search after-whole
