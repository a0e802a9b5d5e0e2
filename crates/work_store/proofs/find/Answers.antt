-- `work_store::find` meets its contract: the way of the key is followed, if it can be declared.
use Rattle.work_store.proofs.SeekLaws.{sought-some, sought-found, strange-nowhere}
use borrow.Author.Rules.{rules}
use Rattle.work_store.proofs.find.Goals as goal

pub find_from-requires : goal.find_from-requires
find_from-requires c = record { some_sought = search sought-some; h_in_bounds = search rules }

pub returns-then-k : goal.returns-then-k
returns-then-k c = search sought-found

pub returns-else-k : goal.returns-else-k
returns-else-k c = search strange-nowhere
