-- `text_operands::none_left` meets its contract: a law for a visible byte.
use Rattle.text_operands.proofs.AfterLaws.{left-solid}
use Rattle.text_operands.proofs.none_left.Goals as goal

pub returns-else-plain_at-le32 : goal.returns-else-plain_at-le32
returns-else-plain_at-le32 c = search left-solid
