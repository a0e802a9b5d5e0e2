-- `order_keys::write_levels` meets its contract. The loop's invariant: the bytes of the levels from the present one on are still to be written.
use Rattle.order_keys.proofs.LevelsLaws.{Levels}
use Rattle.order_keys.proofs.write_levels.Given as goal

abbrev pub invariant-loop-level : goal.invariant-loop-level
invariant-loop-level l = Levels l.t l.s l.initial.room l.room l.level l.next
