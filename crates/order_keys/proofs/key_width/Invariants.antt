-- `order_keys::key_width` meets its contract. The loop's invariant: the bytes added up and those of the levels from the present one on are the key's.
use Rattle.order_keys.proofs.CountLaws.{Widening}
use Rattle.order_keys.proofs.key_width.Given as goal

abbrev pub invariant-loop-level : goal.invariant-loop-level
invariant-loop-level l = Widening l.t l.s l.wide l.level
