-- `work_store::same_key` meets its contract: the kinds first, then the numbers.
use Rattle.work_store.proofs.SlotLaws.{kind-same, kind-other}
use Rattle.work_store.proofs.same_key.Goals as goal

pub returns-then-tag-number : goal.returns-then-tag-number
returns-then-tag-number c = search kind-same

pub returns-else-tag-number : goal.returns-else-tag-number
returns-else-tag-number c = search kind-other
