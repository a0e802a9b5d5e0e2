-- `charmap_body::codes_outcome` meets its contract: the codes are read, and then their range.
use Rattle.charmap_body.proofs.OutcomeLaws.{codes-none, codes-small, codes-give}
use Rattle.charmap_body.proofs.codes_outcome.Goals as goal

pub returns-in_default : goal.returns-in_default
returns-in_default c = search codes-none

pub range_outcome-requires : goal.range_outcome-requires
range_outcome-requires c = (c.requires.0, search codes-small)

pub returns : goal.returns
returns c = search codes-give
