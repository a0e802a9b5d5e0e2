-- `work_toggles::word_ends` meets its contract: a byte more, or none.
use Rattle.work_toggles.proofs.WordLaws.{ends-is}
use Rattle.work_toggles.proofs.word_ends.Goals as goal

pub returns : goal.returns
returns c = search ends-is
