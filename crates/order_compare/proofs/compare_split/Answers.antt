-- `order_compare::compare_split` meets its contract: with both strings cut, the answer from the first level on is the whole answer.
use Rattle.order_compare.proofs.FirstLaws.{split-both, split-answer}
use Rattle.order_compare.proofs.compare_split.Goals as goal

pub compare_cut-requires : goal.compare_cut-requires
compare_cut-requires c = search split-both

pub returns : goal.returns
returns c = search split-answer
