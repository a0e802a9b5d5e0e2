-- `locale_levels::joined` meets its contract: the numbers of both where they are known, and a law for each other way.
use Rattle.locale_levels.specs.Rules.{joined_to}
use Rattle.locale_levels.proofs.JoinLaws.{join-first, join-forward, join-backward, join-position, join-forward-comma, join-position-comma, join-backward-comma, join-other}
use Rattle.locale_levels.proofs.joined.Goals as goal

pub returns-in-Nothing-Forward : goal.returns-in-Nothing-Forward
unfolding joined_to
returns-in-Nothing-Forward c = rw (c.in-Nothing-Forward.is-0, c.in-Nothing-Forward.is-1)

pub returns-in-Nothing-Backward : goal.returns-in-Nothing-Backward
unfolding joined_to
returns-in-Nothing-Backward c = rw (c.in-Nothing-Backward.is-0, c.in-Nothing-Backward.is-1)

pub returns-in-Nothing-Position : goal.returns-in-Nothing-Position
unfolding joined_to
returns-in-Nothing-Position c = rw (c.in-Nothing-Position.is-0, c.in-Nothing-Position.is-1)

pub returns-in-Forward-Comma : goal.returns-in-Forward-Comma
unfolding joined_to
returns-in-Forward-Comma c = rw (c.in-Forward-Comma.is-0, c.in-Forward-Comma.is-1)

pub returns-in-Backward-Comma : goal.returns-in-Backward-Comma
unfolding joined_to
returns-in-Backward-Comma c = rw (c.in-Backward-Comma.is-0, c.in-Backward-Comma.is-1)

pub returns-in-Position-Comma : goal.returns-in-Position-Comma
unfolding joined_to
returns-in-Position-Comma c = rw (c.in-Position-Comma.is-0, c.in-Position-Comma.is-1)

pub returns-in-BackwardComma-Position : goal.returns-in-BackwardComma-Position
unfolding joined_to
returns-in-BackwardComma-Position c = rw (c.in-BackwardComma-Position.is-0, c.in-BackwardComma-Position.is-1)

pub returns-in-BackwardComma-Position-2 : goal.returns-in-BackwardComma-Position-2
unfolding joined_to
returns-in-BackwardComma-Position-2 c = rw (c.in-BackwardComma-Position.is-0, c.in-BackwardComma-Position.is-1)

pub returns-in-ForwardComma-Position : goal.returns-in-ForwardComma-Position
unfolding joined_to
returns-in-ForwardComma-Position c = rw (c.in-ForwardComma-Position.is-0, c.in-ForwardComma-Position.is-1)

pub returns-in-ForwardComma-Position-2 : goal.returns-in-ForwardComma-Position-2
unfolding joined_to
returns-in-ForwardComma-Position-2 c = rw (c.in-ForwardComma-Position.is-0, c.in-ForwardComma-Position.is-1)

pub returns-in_default : goal.returns-in_default
returns-in_default c = search join-first

pub returns-in_default-2 : goal.returns-in_default-2
returns-in_default-2 c = search join-forward

pub returns-in_default-3 : goal.returns-in_default-3
returns-in_default-3 c = search join-backward

pub returns-in_default-4 : goal.returns-in_default-4
returns-in_default-4 c = search join-position

pub returns-in_default-5 : goal.returns-in_default-5
returns-in_default-5 c = search join-forward-comma

pub returns-in_default-6 : goal.returns-in_default-6
returns-in_default-6 c = search join-position-comma

pub returns-in_default-7 : goal.returns-in_default-7
returns-in_default-7 c = search join-backward-comma

pub returns-in_default-8 : goal.returns-in_default-8
returns-in_default-8 c = search join-other
