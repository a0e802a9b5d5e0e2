-- `table_layout::bucket_at` meets its contract: the bucket by the first number of the item.
use Rattle.table_layout.proofs.BucketLaws.{from_is, from-few}
use Rattle.table_layout.proofs.bucket_at.Goals as goal

pub returns : goal.returns
returns c = (search from_is, from-few c.args.t.now c.args.chars c.args.items c.args.p c.four_numbers.ensures c.bucket_of.ensures c.requires.from_one c.requires.in-items)
