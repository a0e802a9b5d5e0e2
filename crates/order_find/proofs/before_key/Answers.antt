-- `order_find::before_key` meets its contract: the first number in which the two differ decides.
use Rattle.order_find.proofs.KeyLaws.{first-decides, second-decides, third-decides, fourth-decides}
use Rattle.order_find.proofs.before_key.Goals as goal

pub returns-then-a-key : goal.returns-then-a-key
returns-then-a-key c = search first-decides

pub returns-then-b-key : goal.returns-then-b-key
returns-then-b-key c = search second-decides

pub returns-then-c-key : goal.returns-then-c-key
returns-then-c-key c = search third-decides

pub returns : goal.returns
returns c = search fourth-decides
