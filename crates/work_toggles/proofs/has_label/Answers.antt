-- `work_toggles::has_label` meets its contract: the words are compared.
use Rattle.work_toggles.proofs.AreaLaws.{spot-inside, label_is}
use borrow.Author.Rules.{rules}
use Rattle.work_toggles.proofs.has_label.Goals as goal

pub same_word-requires : goal.same_word-requires
same_word-requires c = (search rules, search spot-inside)

pub returns : goal.returns
returns c = search label_is
