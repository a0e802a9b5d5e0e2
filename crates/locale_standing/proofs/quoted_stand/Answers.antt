use Rattle.locale_standing.proofs.StandLaws.{standing-none, standing-end, standing-to, standing-inside, standing-not, standing-open, standing-more, standing-less}
use borrow.Author.Rules.{rules}
use Rattle.locale_standing.proofs.quoted_stand.Goals as goal

pub loop-r-init : goal.loop-r-init
loop-r-init c = search standing-none

pub returns : goal.returns
returns c = search standing-end

pub stands_at-requires : goal.stands_at-requires
stands_at-requires c = record { at_in_bounds = (search standing-to, search standing-inside); sound = search rules }

pub end_of_name-requires : goal.end_of_name-requires
end_of_name-requires c = (search standing-to, search standing-inside)

pub loop-r-smaller : goal.loop-r-smaller
loop-r-smaller c = search standing-less

pub loop-r-preserved : goal.loop-r-preserved
loop-r-preserved c = search standing-more

pub returns-in_default-end_of_name : goal.returns-in_default-end_of_name
returns-in_default-end_of_name c = search standing-open

pub returns-then-not-stands_at : goal.returns-then-not-stands_at
returns-then-not-stands_at c = search standing-not
