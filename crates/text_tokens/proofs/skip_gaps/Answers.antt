-- `text_tokens::skip_gaps` meets its contract: a law for no blank, and for one.
use Rattle.text_tokens.proofs.AheadLaws.{ahead_none, ahead-one}
use Rattle.text_tokens.proofs.skip_gaps.Goals as goal

pub returns-then-b-gt32 : goal.returns-then-b-gt32
returns-then-b-gt32 c = search ahead_none

pub returns-then-plain_at-gt32 : goal.returns-then-plain_at-gt32
returns-then-plain_at-gt32 c = search ahead-one
