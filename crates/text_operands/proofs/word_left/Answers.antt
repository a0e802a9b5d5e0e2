-- `text_operands::word_left` meets its contract: the first operand is a word, and none follows it.
use Rattle.text_operands.proofs.OneLaws.{word-missing, word-alone}
use Rattle.text_operands.proofs.word_left.Goals as goal

pub returns-in_default : goal.returns-in_default
returns-in_default c = word-missing c.args.src.signs c.args.src.bytes.now c.args.p c.next_operand.result c.next_operand.ensures c.in_default.not-Token

pub returns-then-none_left : goal.returns-then-none_left
returns-then-none_left c = search word-alone
