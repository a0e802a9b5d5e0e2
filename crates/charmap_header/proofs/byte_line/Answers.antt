-- `charmap_header::byte_line` meets its contract: the byte is taken, or the line ends before one.
use Rattle.charmap_header.proofs.NameLaws.{opened-to, opened-start, opened-less, opened_nothing, opened-fits, opened-byte}
use Rattle.charmap_header.proofs.byte_line.Goals as goal

pub after_blanks-requires : goal.after_blanks-requires
after_blanks-requires c = search opened-to

pub malformed-requires : goal.malformed-requires
malformed-requires c = search opened_nothing

pub line_at-a-requires : goal.line_at-a-requires
line_at-a-requires c = search opened-start

pub line_end-d-requires : goal.line_end-d-requires
line_end-d-requires c = search opened-to

pub overflow_add-rest : goal.overflow_add-rest
overflow_add-rest c = record { fits = search opened-fits }

pub overflow_sub-a : goal.overflow_sub-a
overflow_sub-a c = search opened-less

pub set_line-requires : goal.set_line-requires
set_line-requires c = search opened-byte
