use Rattle.std.proofs.lemmas.Result.{err_from_is_err_and}
use Rattle.charmap_coding.proofs.AcceptLaws.{area-granted}
use Rattle.charmap_coding.proofs.DecodeLaws.{decode-unaccepted, decode-long, decode-unmapped, decode-short, decode-written}
use Rattle.charmap_coding.proofs.decode.Goals as goal

pub returns-in_err-check_area : goal.returns-in_err-check_area
returns-in_err-check_area c = let p = err_from_is_err_and c.from_residual.result c.from_residual.ensures.1 in rw (p.1, p.2) (decode-unaccepted _ _ _ _ c.in_err-check_area.ensures)

pub returns-then-bytes-gt4096 : goal.returns-then-bytes-gt4096
returns-then-bytes-gt4096 c = search (decode-long, c.in_ok-check_area.ensures)

pub all_mapped-mapped-requires : goal.all_mapped-mapped-requires
all_mapped-mapped-requires c = search (area-granted, c.in_ok-check_area.ensures)

pub returns-then-not-mapped : goal.returns-then-not-mapped
returns-then-not-mapped c = search (decode-unmapped, c.in_ok-check_area.ensures)

pub returns-then-room-bytes : goal.returns-then-room-bytes
returns-then-room-bytes c = search (decode-short, c.in_ok-check_area.ensures)

pub write_codes-requires-clause-area_value : goal.write_codes-requires-clause-area_value
write_codes-requires-clause-area_value c = search (area-granted, c.in_ok-check_area.ensures)

pub returns : goal.returns
returns c = search (decode-written, c.in_ok-check_area.ensures)
