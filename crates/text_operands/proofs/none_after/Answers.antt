-- `text_operands::none_after` meets its contract.
use Rattle.text_operands.proofs.AfterLaws.{left-any}
use Rattle.text_operands.proofs.none_after.Goals as goal

pub returns-in_default : goal.returns-in_default
returns-in_default c = left-any c.args.src.signs c.args.src.bytes.now c.args.glued c.args.p c.next_operand.result c.next_operand.ensures c.in_default.not-End
