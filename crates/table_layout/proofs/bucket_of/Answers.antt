-- `table_layout::bucket_of` meets its contract: padding has the last bucket, a character its low bits.
use Rattle.table_layout.proofs.BucketLaws.{bucket-pad, bucket-low}
use Rattle.table_layout.proofs.bucket_of.Goals as goal

pub returns-then-c-eq1114112 : goal.returns-then-c-eq1114112
returns-then-c-eq1114112 c = search bucket-pad

pub returns-else-c-eq1114112 : goal.returns-else-c-eq1114112
returns-else-c-eq1114112 c = search bucket-low
