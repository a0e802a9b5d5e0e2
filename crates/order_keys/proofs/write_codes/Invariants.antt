-- `order_keys::write_codes` meets its contract. The loop's invariant: the bytes of the characters from i on are still to be written.
use Rattle.order_keys.proofs.CodesLaws.{Codes}
use Rattle.order_keys.proofs.write_codes.Given as goal

abbrev pub invariant-loop-c : goal.invariant-loop-c
invariant-loop-c l = Codes l.s l.initial.room l.at l.room l.c-index l.next
