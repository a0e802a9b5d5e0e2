-- `locale_opening::open_line` meets its contract: a law for each answer.
use Rattle.locale_opening.proofs.OpenLaws.{begins-blank, begins-broken, begins-word, begins-name, begins-other}
use Rattle.locale_opening.proofs.open_line.Goals as goal

pub returns-in-End : goal.returns-in-End
returns-in-End c = search begins-blank

pub returns-in-Broken : goal.returns-in-Broken
returns-in-Broken c = search begins-broken

pub returns-in-Token : goal.returns-in-Token
returns-in-Token c = search begins-word

pub returns-in-Token-2 : goal.returns-in-Token-2
returns-in-Token-2 c = search begins-name

pub returns-in-Token-3 : goal.returns-in-Token-3
returns-in-Token-3 c = search begins-other
