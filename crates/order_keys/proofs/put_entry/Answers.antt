-- `order_keys::put_entry` meets its contract: with position four bytes, else the two of the weight.
use borrow.Author.Rules.{rules}
use Rattle.order_keys.proofs.ElementLaws.{count-inside, weight-fits, entry-positioned, weight-fits-alone, entry-plain}
use Rattle.order_keys.proofs.put_entry.Goals as goal

pub put_two-next-requires : goal.put_two-next-requires
put_two-next-requires c = record { small = search rules; inside = search count-inside }

pub put_two-requires : goal.put_two-requires
put_two-requires c = search weight-fits

pub returns-then-position : goal.returns-then-position
returns-then-position c = search entry-positioned

pub put_two-requires-else-position : goal.put_two-requires-else-position
put_two-requires-else-position c = search weight-fits-alone

pub returns-else-position : goal.returns-else-position
returns-else-position c = search entry-plain
