-- `text_tokens::next_token` meets its contract: a law for each byte that tells the token.
use Rattle.text_tokens.proofs.AheadLaws.{ahead-inside, ahead-open, ahead-name, ahead-semi}
use Rattle.text_tokens.proofs.next_token.Goals as goal

pub end_of_name-requires : goal.end_of_name-requires
end_of_name-requires c = let a = c.args in search (ahead-inside a.src.signs a.src.bytes.now a.p)

pub returns-in-Some : goal.returns-in-Some
returns-in-Some c = search ahead-name

pub returns-in-None : goal.returns-in-None
returns-in-None c = search ahead-open

pub returns-in-59 : goal.returns-in-59
returns-in-59 c = search ahead-semi
