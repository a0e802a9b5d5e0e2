-- `locale_skips::skip_branch` meets its contract: what the reading answers.
use Rattle.locale_skips.proofs.BranchLaws.{reading_begins}
use Rattle.locale_skips.proofs.skip_branch.Goals as goal

pub branch_lines-requires : goal.branch_lines-requires
branch_lines-requires c = search reading_begins
