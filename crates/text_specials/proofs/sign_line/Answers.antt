-- `text_specials::sign_line` meets its contract: it is plain where no keyword opens it.
use Rattle.text_specials.proofs.OpenLaws.{neither-at}
use Rattle.text_specials.proofs.sign_line.Goals as goal

pub returns-in-Neither : goal.returns-in-Neither
returns-in-Neither c = search neither-at
