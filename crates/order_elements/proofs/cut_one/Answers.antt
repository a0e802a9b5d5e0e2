-- `order_elements::cut_one` meets its contract: the element found is the string's next, and its place is small enough to keep.
use Rattle.order_elements.proofs.CutLaws.{cut-more, place-fits}
use Rattle.order_elements.proofs.cut_one.Goals as goal

pub overflow_cast-places : goal.overflow_cast-places
overflow_cast-places c = search place-fits

pub returns : goal.returns
returns c = search cut-more
