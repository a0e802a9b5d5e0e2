use Rattle.std.proofs.lemmas.Result.{err_from_is_err_and}
use Rattle.charmap_coding.proofs.AcceptLaws.{area-granted, area-size, codes-count, ones-many, codes-few}
use Rattle.charmap_coding.proofs.EncodeLaws.{encode-unaccepted, encode-bad}
use Rattle.charmap_coding.proofs.encode.Goals as goal

pub returns-in_err-check_area : goal.returns-in_err-check_area
returns-in_err-check_area c = let p = err_from_is_err_and c.from_residual.result c.from_residual.ensures.1 in rw (p.1, p.2) (encode-unaccepted _ _ _ _ c.in_err-check_area.ensures)

pub returns-then-not-good : goal.returns-then-not-good
returns-then-not-good c = search (encode-bad, c.in_ok-check_area.ensures)

pub slice_bounds-index_bytes-end : goal.slice_bounds-index_bytes-end
slice_bounds-index_bytes-end c = search (codes-count, area-size, area-granted, c.in_ok-check_area.ensures)

pub slice_bounds-index_bytes-end-2 : goal.slice_bounds-index_bytes-end-2
slice_bounds-index_bytes-end-2 c = search (area-size, area-granted, c.in_ok-check_area.ensures)

pub index_bytes-requires-clause-codes_len : goal.index_bytes-requires-clause-codes_len
index_bytes-requires-clause-codes_len c = search (ones-many, codes-few, area-size, area-granted, c.in_ok-check_area.ensures)

pub encode_by-requires-clause-area_value : goal.encode_by-requires-clause-area_value
encode_by-requires-clause-area_value c = search (area-granted, c.in_ok-check_area.ensures)
