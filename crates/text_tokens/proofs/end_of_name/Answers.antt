-- `text_tokens::end_of_name` meets its contract: a law for each answer.
use Rattle.text_tokens.proofs.PlainLaws.{plain-none, plain_closed, plain_then}
use Rattle.text_tokens.proofs.end_of_name.Goals as goal

pub returns-then-at-p : goal.returns-then-at-p
returns-then-at-p c = search plain-none

pub returns-then-src-ne62 : goal.returns-then-src-ne62
returns-then-src-ne62 c = search plain_closed

pub returns : goal.returns
returns c = search plain_then
