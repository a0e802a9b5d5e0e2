use Rattle.locale_skips.proofs.BranchLaws.{turn-opens, turn-deep, turn-closes, turn-ends, turn-branches, turn-own, turn-other, total-some}
use Rattle.locale_skips.proofs.branch_turn.Goals as goal

pub returns-in-Opens : goal.returns-in-Opens
returns-in-Opens c = search turn-opens

pub returns-in-Opens-2 : goal.returns-in-Opens-2
returns-in-Opens-2 c = search turn-deep

pub returns-in-Closes : goal.returns-in-Closes
returns-in-Closes c = search turn-ends

pub returns-in-Closes-2 : goal.returns-in-Closes-2
returns-in-Closes-2 c = search turn-closes

pub returns-in-Branches : goal.returns-in-Branches
returns-in-Branches c = search turn-own

pub returns-in-Branches-2 : goal.returns-in-Branches-2
returns-in-Branches-2 c = search turn-branches

pub returns-in-Other : goal.returns-in-Other
returns-in-Other c = search turn-other
