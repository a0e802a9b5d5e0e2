-- `order_keys::key` meets its contract: one law for each return.
use Rattle.order_keys.proofs.WholeLaws.{key-unaccepted, key-bad, keyable}
use Rattle.order_keys.proofs.key.Goals as goal

pub returns-then-not-accepts : goal.returns-then-not-accepts
returns-then-not-accepts c = search key-unaccepted

pub returns-then-not-good_string : goal.returns-then-not-good_string
returns-then-not-good_string c = search key-bad

pub key_checked-requires : goal.key_checked-requires
key_checked-requires c = search keyable
