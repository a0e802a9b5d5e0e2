-- `order_find::quick_in` meets its contract: the item that is listed first in the character's bucket, if it is that character alone.
use native.Mathlib.Omega.{arith}
use Rattle.order_find.proofs.SearchLaws.{next-bucket}
use Rattle.order_find.proofs.QuickLaws.{quick-inside, quick-found}
use Rattle.order_find.proofs.quick_in.Goals as goal

pub start_in-k-requires : goal.start_in-k-requires
start_in-k-requires c =
    let w = c.requires.indexed in
    record { indexed = w; b_bound = omega (arith, next-bucket w _ c.bucket_in.ensures) }

pub item_at-item-requires : goal.item_at-item-requires
item_at-item-requires c =
    let w = c.requires.indexed in
    record { indexed = w; k_lt = quick-inside w _ c.bucket_in.ensures c.start_in-k.ensures }

pub returns-then-t-from-eq1114112 : goal.returns-then-t-from-eq1114112
returns-then-t-from-eq1114112 c =
    let w = c.requires.indexed in
    search (quick-found w _ c.bucket_in.ensures c.start_in-k.ensures)
