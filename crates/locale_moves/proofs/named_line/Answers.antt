-- `locale_moves::named_line` meets its contract: a law for each answer.
use Rattle.locale_moves.proofs.NamedLaws.{named_other, named_more, named-alone}
use Rattle.locale_moves.proofs.named_line.Goals as goal

pub returns-in-Some : goal.returns-in-Some
returns-in-Some c = search named-alone

pub returns-in_default : goal.returns-in_default
returns-in_default c = search named_more

pub returns-in_default-2 : goal.returns-in_default-2
returns-in_default-2 c = search named_other
