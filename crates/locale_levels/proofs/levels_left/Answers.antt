-- `locale_levels::levels_left` meets its contract.
use Rattle.locale_levels.proofs.LevelLaws.{left-none, left-broken, left-judged}
use Rattle.locale_levels.proofs.levels_left.Goals as goal

pub returns-then-none_left : goal.returns-then-none_left
returns-then-none_left c = search left-none

pub returns-in_default : goal.returns-in_default
returns-in_default c = search left-broken

pub returns : goal.returns
returns c = search left-judged
