-- `work_toggles::part_words` meets its contract: the rooms differ where the words do.
use Rattle.work_toggles.proofs.CopyLaws.{copied-long, words-part}
use Rattle.work_toggles.proofs.part_words.Goals as goal

pub first_difference-k-requires : goal.first_difference-k-requires
first_difference-k-requires c = (search copied-long, search copied-long)

pub returns : goal.returns
returns c = search words-part
