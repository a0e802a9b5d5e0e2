-- `locale_outside::outer_line` meets its contract: whether a byte is taken as it stands.
use Rattle.locale_outside.proofs.SetLaws.{plain_at_lem, taken_at}
use Rattle.locale_outside.proofs.outer_line.Goals as goal

pub plain_line-requires : goal.plain_line-requires
plain_line-requires c = search plain_at_lem

pub returns-in-None : goal.returns-in-None
returns-in-None c = c.plain_line.ensures _

pub taken_line-requires : goal.taken_line-requires
taken_line-requires c = search taken_at

pub returns-in-Some : goal.returns-in-Some
returns-in-Some c = c.taken_line.ensures _
