-- `work_store::tag_in` meets its contract: the tag is the lowest six bits of number 2.
use Rattle.work_store.proofs.SlotLaws.{tag_read}
use borrow.Author.Rules.{rules}
use Rattle.work_store.proofs.tag_in.Goals as goal

pub returns : goal.returns
returns c = (search tag_read, search rules)
