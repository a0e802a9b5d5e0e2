use native.Mathlib.Omega.{arith}
use Rattle.order_find.proofs.SearchLaws.{search-some}
use Rattle.order_find.proofs.LookLaws.{seeking-start, seeking-ahead, seeking-found, seeking-less, seeking-more, seeking-none}
use Rattle.order_find.proofs.search.Goals as goal

pub loop-size-init : goal.loop-size-init
loop-size-init c = search seeking-start

pub look-requires : goal.look-requires
look-requires c = let v = c.loop-size.invariant in record { indexed = v.indexed; ahead = seeking-ahead v c.loop-size-test.true }

pub returns-in-Element : goal.returns-in-Element
returns-in-Element c = search seeking-found

pub loop-size-smaller : goal.loop-size-smaller
loop-size-smaller c = search seeking-less

pub loop-size-preserved : goal.loop-size-preserved
loop-size-preserved c = search seeking-more

pub overflow_sub-n : goal.overflow_sub-n
overflow_sub-n c = omega (arith, search-some c.loop-size.invariant.indexed)

pub item_at-last-requires : goal.item_at-last-requires
item_at-last-requires c = let w = c.loop-size.invariant.indexed in record { indexed = w; k_lt = omega (arith, search-some w) }

pub returns : goal.returns
returns c = search seeking-none
