-- `work_toggles::candidate_of` meets its contract: that of the word's first bytes.
use Rattle.work_toggles.proofs.CopyLaws.{copied-long, candidate-copied}
use Rattle.work_toggles.proofs.candidate_of.Goals as goal

pub candidate_among-requires : goal.candidate_among-requires
candidate_among-requires c = search copied-long

pub returns : goal.returns
returns c = search candidate-copied
