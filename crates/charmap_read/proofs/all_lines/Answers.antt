-- `charmap_read::all_lines` meets its contract: the header, and then the body.
use Rattle.std.proofs.lemmas.Result.{err_from_is_err_and}
use Rattle.charmap_read.proofs.EntryLaws.{opens, header_refused, goes_on}
use Rattle.charmap_read.proofs.all_lines.Goals as goal

pub returns-in_err-h : goal.returns-in_err-h
returns-in_err-h c =
    let p = err_from_is_err_and c.from_residual.result c.from_residual.ensures.1 in
    rw (p.1, p.2) (header_refused _ c.header_lines.ensures c.in_err-h.was)

pub body_lines-requires : goal.body_lines-requires
body_lines-requires c = opens _ c.header_lines.ensures c.requires.0 c.requires.1 c.in_ok-h.was

pub returns : goal.returns
returns c = goes_on _ c.header_lines.ensures _ _ c.in_ok-h.was c.body_lines.ensures
