-- `text_tokens::word_byte` meets its contract: a law for each way.
use Rattle.text_tokens.proofs.WordLaws.{word_end, word-stops, word_on}
use Rattle.text_tokens.proofs.word_byte.Goals as goal

pub returns-in_err-m : goal.returns-in_err-m
returns-in_err-m c = rw c.from_residual.ensures (word_end c.in_err-m.ensures)

pub returns-then-in_word : goal.returns-then-in_word
returns-then-in_word c = search (word_on, c.in_ok-m.ensures)

pub returns-else-in_word : goal.returns-else-in_word
returns-else-in_word c = search (word-stops, c.in_ok-m.ensures)
