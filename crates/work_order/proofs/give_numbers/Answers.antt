-- `work_order::give_numbers` meets its contract.
use Rattle.work_order.proofs.ListLaws.{give-numbers}
use Rattle.work_order.proofs.give_numbers.Goals as goal

pub returns : goal.returns
returns c = search give-numbers
