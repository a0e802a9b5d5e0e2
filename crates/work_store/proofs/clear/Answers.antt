-- `work_store::clear` meets its contract.
use Rattle.work_store.proofs.clear.Goals as goal

pub returns : goal.returns
returns c = c.fill.ensures.after (λ y e. e)
