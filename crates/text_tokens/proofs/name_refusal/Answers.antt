-- `text_tokens::name_refusal` meets its contract: a law for each way.
use Rattle.text_tokens.proofs.NameLaws.{refusal-none, refusal-good, refusal-long, refusal-foul}
use Rattle.text_tokens.proofs.name_refusal.Goals.{then-n-eq0-via-then-n-eq0, then-n-eq0-via-else-n-eq0+then-not-visible}
use Rattle.text_tokens.proofs.name_refusal.Goals as goal

pub returns-then-n-eq0 : goal.returns-then-n-eq0
returns-then-n-eq0 c = elim c.then-n-eq0.branch [
  | then-n-eq0-via-then-n-eq0 w ↦ search refusal-none
  | then-n-eq0-via-else-n-eq0+then-not-visible w ↦ search refusal-foul
]

pub returns-then-n-le32 : goal.returns-then-n-le32
returns-then-n-le32 c = search refusal-good

pub returns-else-n-le32 : goal.returns-else-n-le32
returns-else-n-le32 c = search refusal-long
