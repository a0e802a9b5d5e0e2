-- `order_find::look` meets its contract: the first listed item that does not come before the next characters shares as many with them as each item that stands there has.
use Rattle.order_find.proofs.LookLaws.{look_none, look-all, look-whole, look-part}
use Rattle.order_find.proofs.look.Goals as goal
use Rattle.order_find.proofs.look.Goals.{then-n-size-via-then-n-size, then-n-size-via-else-n-size+then-t-item-eq1114112}

pub returns-then-n-eq0 : goal.returns-then-n-eq0
returns-then-n-eq0 c = search look_none

pub returns-then-n-size : goal.returns-then-n-size
returns-then-n-size c =
    elim c.then-n-size.branch [ then-n-size-via-then-n-size w ↦ search look-all | then-n-size-via-else-n-size+then-t-item-eq1114112 w ↦ search look-whole ]

pub returns : goal.returns
returns c = search look-part
