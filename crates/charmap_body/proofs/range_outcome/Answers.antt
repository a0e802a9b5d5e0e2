-- `charmap_body::range_outcome` meets its contract: a law for each way.
use Rattle.charmap_body.proofs.OutcomeLaws.{range-room, range_back, range-past, range-taken, range_gives}
use borrow.Author.Rules.{rules}
use Rattle.charmap_body.proofs.range_outcome.Goals as goal

pub returns-then-high-low : goal.returns-then-high-low
returns-then-high-low c = search range_back

pub returns-then-from-more-gt255 : goal.returns-then-from-more-gt255
returns-then-from-more-gt255 c = search range-past

pub any_given-requires : goal.any_given-requires
any_given-requires c = range-room _ _ _ c.requires.0 (search rules)

pub returns-then-any_given : goal.returns-then-any_given
returns-then-any_given c = search range-taken

pub returns : goal.returns
returns c = search range_gives
