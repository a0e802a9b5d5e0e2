-- `order_elements::next_meeting` meets its contract: what stands ahead of both walks decides.
use Rattle.order_elements.proofs.CompareLaws.{meets}
use Rattle.order_elements.proofs.next_meeting.Goals as goal

pub returns : goal.returns
returns c = search meets
