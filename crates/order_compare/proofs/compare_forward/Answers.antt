-- `order_compare::compare_forward` meets its contract: the first level decides, or the answer from the second on does, with the entries that agreed.
use Rattle.order_compare.proofs.FirstLaws.{forward-less, forward-greater, forward-both, forward-equal}
use Rattle.order_compare.proofs.compare_forward.Goals as goal

pub compare_cut-requires : goal.compare_cut-requires
compare_cut-requires c = search forward-both

pub returns-in-Before : goal.returns-in-Before
returns-in-Before c = search forward-less

pub returns-in-After : goal.returns-in-After
returns-in-After c = search forward-greater

pub returns-in-Same : goal.returns-in-Same
returns-in-Same c = search forward-equal
