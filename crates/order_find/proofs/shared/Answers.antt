use Rattle.order_find.proofs.KeyLaws.{shares-some, shares-all}
use Rattle.order_find.proofs.shared.Goals as goal

pub returns-then-t-from : goal.returns-then-t-from
returns-then-t-from c = search shares-some

pub returns : goal.returns
returns c = search shares-all
