use Rattle.locale_skips.proofs.BranchLaws.{reading-chains, reading-own, reading-deep, reading-on}
use Rattle.locale_skips.proofs.branch_line.Goals as goal

pub returns-in-Deep : goal.returns-in-Deep
returns-in-Deep c = search reading-deep

pub returns-in-On : goal.returns-in-On
returns-in-On c = search reading-on
