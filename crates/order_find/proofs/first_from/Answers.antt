use native.Mathlib.Omega.{arith}
use Rattle.table_layout.proofs.IndexLaws.{indexed-sizes}
use Rattle.order_find.proofs.SearchLaws.{next-bucket, halving-start, halving-up, halving-down, halving-end}
use Rattle.order_find.proofs.first_from.Goals as goal

pub overflow_add-next : goal.overflow_add-next
overflow_add-next c = let w = c.requires in omega (arith, indexed-sizes w, next-bucket w _ c.bucket_in-bucket.ensures)

pub start_in-lo-requires : goal.start_in-lo-requires
start_in-lo-requires c = let w = c.requires in record { indexed = w; b_bound = omega (arith, next-bucket w _ c.bucket_in-bucket.ensures) }

pub start_in-hi-requires : goal.start_in-hi-requires
start_in-hi-requires c = let w = c.requires in record { indexed = w; b_bound = next-bucket w _ c.bucket_in-bucket.ensures }

pub loop-lo-init : goal.loop-lo-init
loop-lo-init c = search halving-start

pub loop-lo-preserved-then-before_key : goal.loop-lo-preserved-then-before_key
loop-lo-preserved-then-before_key c = search halving-up

pub loop-lo-preserved : goal.loop-lo-preserved
loop-lo-preserved c = search halving-down

pub returns : goal.returns
returns c = search halving-end
