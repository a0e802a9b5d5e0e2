-- `charmap_read::read_by` meets its contract: the lines' refusal, a short area, or the numbers.
use Rattle.std.proofs.lemmas.Result.{err_from_is_err_and}
use borrow.Author.Rules.{rules}
use Rattle.charmap_read.proofs.ReadLaws.{line_refused, own-length, too_short, written}
use Rattle.charmap_read.proofs.read_by.Goals as goal

pub returns-in_err-all_lines : goal.returns-in_err-all_lines
returns-in_err-all_lines c =
    let p = err_from_is_err_and c.from_residual.result c.from_residual.ensures.1 in
    rw (p.1, p.2) (line_refused _ _ c.requires.0 _ c.all_lines.ensures c.in_err-all_lines.was)

pub returns-then-area-lt512 : goal.returns-then-area-lt512
returns-then-area-lt512 c = too_short _ _ c.requires.0 _ c.all_lines.ensures c.in_ok-all_lines.was c.if-area-lt512.true

pub copy_area-requires : goal.copy_area-requires
copy_area-requires c = (own-length c.args.src.now c.args.area.now c.requires.0 _ c.all_lines.ensures c.in_ok-all_lines.was, search rules)

pub returns : goal.returns
returns c = written _ _ c.requires.0 _ c.all_lines.ensures c.in_ok-all_lines.was c.if-area-lt512.false c.copy_area.ensures
