-- `order_elements::meet` meets its contract: one law for each way that two next entries can stand.
use Rattle.order_elements.proofs.CompareLaws.{meet-over, meet-before, meet-after, meet-on}
use Rattle.order_elements.proofs.meet.Goals as goal

pub returns-in-End-End : goal.returns-in-End-End
returns-in-End-End c = search meet-over

pub returns-in-Less : goal.returns-in-Less
returns-in-Less c = search meet-before

pub returns-in-Greater : goal.returns-in-Greater
returns-in-Greater c = search meet-after

pub returns-in-Equal : goal.returns-in-Equal
returns-in-Equal c = search meet-on
