-- `locale_symbols::name_next` meets its contract: whether the next operand is a name.
use Rattle.locale_symbols.proofs.HeadLaws.{head-end, head-broken, head-other, head-name}
use Rattle.locale_symbols.proofs.name_next.Goals as goal

pub returns-in-Token : goal.returns-in-Token
returns-in-Token c = search head-name

pub returns-in_default : goal.returns-in_default
returns-in_default c = search head-other
