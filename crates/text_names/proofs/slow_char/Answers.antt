-- `text_names::slow_char` meets its contract: a U, and digits after it.
use Rattle.text_names.proofs.CodeLaws.{char-end, char-digits, char-other}
use Rattle.text_names.proofs.slow_char.Goals as goal

pub returns-in_err-b : goal.returns-in_err-b
returns-in_err-b c = rw c.from_residual.ensures (char-end c.args.src.signs c.args.src.bytes.now c.args.p c.in_err-b.ensures)

pub returns-then-b-eq85 : goal.returns-then-b-eq85
returns-then-b-eq85 c = search (char-digits, c.in_ok-b.ensures)

pub returns-else-b-eq85 : goal.returns-else-b-eq85
returns-else-b-eq85 c = search (char-other, c.in_ok-b.ensures)
