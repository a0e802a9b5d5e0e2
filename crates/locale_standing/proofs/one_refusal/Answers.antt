-- `locale_standing::one_refusal` meets its contract.
use Rattle.locale_standing.proofs.TokenLaws.{refused-both}
use Rattle.locale_standing.proofs.one_refusal.Goals as goal

pub returns : goal.returns
returns c = search refused-both
