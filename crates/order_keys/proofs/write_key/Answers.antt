-- `order_keys::write_key` meets its contract: the levels, and behind them the characters, are the key.
use borrow.Author.Rules.{rules}
use Rattle.order_keys.proofs.WholeLaws.{levels-room, codes-room, key-put}
use Rattle.order_keys.proofs.write_key.Goals as goal

pub write_levels-next-requires : goal.write_levels-next-requires
write_levels-next-requires c = search (rules, levels-room)

pub write_codes-requires : goal.write_codes-requires
write_codes-requires c = search (rules, codes-room)

pub returns : goal.returns
returns c = search key-put
