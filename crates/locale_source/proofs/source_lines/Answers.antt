-- `locale_source::source_lines` meets its contract: a law for each answer.
use Rattle.std.proofs.Common.{◌≡◌, Ok, Err}
use Rattle.std.proofs.lemmas.Result.{err_from_is_err_and}
use Rattle.locale_source.proofs.AfterLaws.{answered}
use Rattle.locale_source.proofs.SourceLaws.{start-begins, start-visible, inside-ready, inside-visible, source-inside, source-without, source-refused}
use Rattle.locale_source.proofs.source_lines.Goals as goal

pub outer_lines-requires : goal.outer_lines-requires
outer_lines-requires c = (search start-begins, search start-visible)

pub returns-in_err-h : goal.returns-in_err-h
returns-in_err-h c =
    let p = err_from_is_err_and c.from_residual.result c.from_residual.ensures.1 in
    let e : c.outer_lines.result ≡ Err c.in_err-h.field-0.0 = c.in_err-h.was in
    rw (p.1, p.2) (search source-refused)

pub lines_in-requires : goal.lines_in-requires
lines_in-requires c =
    let e = answered (c.in_ok-h.was) c.in-Collate.is in
    (search inside-ready, search inside-visible)

pub returns-in-Collate : goal.returns-in-Collate
returns-in-Collate c =
    let e = answered (c.in_ok-h.was) c.in-Collate.is in
    search source-inside

pub returns-in-End : goal.returns-in-End
returns-in-End c =
    let e = answered (c.in_ok-h.was) c.in-End.is in
    search source-without
