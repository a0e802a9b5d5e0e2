-- `charmap_body::no_tokens` meets its contract: only the end has no token.
use Rattle.charmap_body.proofs.PlainLaws.{tokens_more}
use Rattle.charmap_body.proofs.no_tokens.Goals as goal

pub returns-in_default : goal.returns-in_default
returns-in_default c = tokens_more _ _ _ _ c.next_token.ensures c.in_default.not-End
