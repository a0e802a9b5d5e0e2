-- `text_specials::byte_from` meets its contract: the byte is taken, or the line ends before one.
use Rattle.text_specials.proofs.TakenLaws.{found_nothing, found-less, found-byte}
use Rattle.text_specials.proofs.byte_from.Goals as goal

pub returns-in_err-b : goal.returns-in_err-b
returns-in_err-b c = rw c.from_residual.ensures (found_nothing c.requires {f = c.after_blanks.result} c.after_blanks.ensures c.in_err-b.was)

pub overflow_sub-result : goal.overflow_sub-result
overflow_sub-result c = search found-less

pub returns : goal.returns
returns c = found-byte c.requires {f = c.after_blanks.result} c.after_blanks.ensures c.in_ok-b.was c.line_end-a.ensures c.line_end-d.ensures
