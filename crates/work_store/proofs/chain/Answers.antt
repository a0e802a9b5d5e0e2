-- `work_store::chain` meets its contract.
use Rattle.work_store.proofs.AreaLaws.{chain-in}
use borrow.Author.Rules.{rules}
use Rattle.work_store.proofs.chain.Goals as goal

pub returns : goal.returns
returns c = (search rules, search chain-in)
