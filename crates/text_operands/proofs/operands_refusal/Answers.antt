-- `text_operands::operands_refusal` meets its contract.
use Rattle.text_operands.proofs.AfterLaws.{refusal-none, refusal-malformed}
use Rattle.text_operands.proofs.operands_refusal.Goals as goal

pub returns-in-None : goal.returns-in-None
returns-in-None c = search refusal-none

pub returns-in-Broken : goal.returns-in-Broken
returns-in-Broken c = search refusal-malformed
