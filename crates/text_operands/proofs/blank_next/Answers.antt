-- `text_operands::blank_next` meets its contract: a law for each byte that tells it.
use Rattle.text_operands.proofs.BlankLaws.{blank-solid, blank-ahead}
use Rattle.text_operands.proofs.blank_next.Goals as goal

pub returns-then-b-gt32 : goal.returns-then-b-gt32
returns-then-b-gt32 c = search blank-solid

pub returns-then-b-eq32 : goal.returns-then-b-eq32
returns-then-b-eq32 c = search blank-ahead
