-- `order_keys::key_checked` meets its contract: what was counted is the key's length, so that the test decides the refusal, and nothing is written before it.
use borrow.Author.Rules.{rules}
use Rattle.order_keys.proofs.WholeLaws.{eight-blank, key-unroomed, key-room, key-written}
use Rattle.order_keys.proofs.key_checked.Goals as goal

pub count_entries-requires : goal.count_entries-requires
count_entries-requires c = search (rules, eight-blank)

pub returns-then-room-width : goal.returns-then-room-width
returns-then-room-width c = search key-unroomed

pub write_key-requires : goal.write_key-requires
write_key-requires c = search (rules, key-room)

pub returns : goal.returns
returns c = search key-written
