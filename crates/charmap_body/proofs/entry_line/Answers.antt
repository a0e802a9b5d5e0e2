-- `charmap_body::entry_line` meets its contract: what the entry's parts give.
use Rattle.std.proofs.lemmas.Result.{err_from_is_err_and}
use Rattle.charmap_body.proofs.BodyLaws.{body-given, body_refused}
use Rattle.charmap_body.proofs.entry_line.Goals as goal

pub returns-in_err-enter : goal.returns-in_err-enter
returns-in_err-enter c =
    let p = err_from_is_err_and c.from_residual.result c.from_residual.ensures.1 in
    rw (p.1, p.2) (body_refused _ _ _ _ c.requires.1 c.enter.ensures c.requires.0 c.in_err-enter.was)

pub returns : goal.returns
returns c = body-given _ _ _ _ c.requires.1 c.enter.ensures c.in_ok-enter.was
