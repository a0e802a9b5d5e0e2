-- `locale_levels::code_of` meets its contract: the code of each rule, or none.
use Rattle.locale_levels.specs.Rules.{code_of}
use Rattle.locale_levels.proofs.JoinLaws.{code-none}
use Rattle.locale_levels.proofs.code_of.Goals as goal

pub returns-in-Forward : goal.returns-in-Forward
unfolding code_of
returns-in-Forward c = rw c.in-Forward.is

pub returns-in-Backward : goal.returns-in-Backward
unfolding code_of
returns-in-Backward c = rw c.in-Backward.is

pub returns-in-Position : goal.returns-in-Position
unfolding code_of
returns-in-Position c = rw c.in-Position.is

pub returns-in-ForwardPosition : goal.returns-in-ForwardPosition
unfolding code_of
returns-in-ForwardPosition c = rw c.in-ForwardPosition.is

pub returns-in-BackwardPosition : goal.returns-in-BackwardPosition
unfolding code_of
returns-in-BackwardPosition c = rw c.in-BackwardPosition.is

pub returns-in_default : goal.returns-in_default
returns-in_default c = search code-none
