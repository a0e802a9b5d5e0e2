-- `text_tokens::name_byte` meets its contract: a law for each way.
use Rattle.text_tokens.proofs.NameLaws.{name-open-here, name-close-here, name-byte-here}
use Rattle.text_tokens.proofs.name_byte.Goals as goal

pub returns-in-None : goal.returns-in-None
returns-in-None c = search name-open-here

pub returns-in-Some-eq62-default : goal.returns-in-Some-eq62-default
returns-in-Some-eq62-default c = search name-close-here

pub returns-in-Some : goal.returns-in-Some
returns-in-Some c = search name-byte-here
