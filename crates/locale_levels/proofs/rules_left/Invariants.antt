-- `locale_levels::rules_left` meets its contract. The invariant: so many rules are passed, and whether each is known. The measure is what is left of the source.
use Prim.Native.Nat.{◌-◌}
use lib.ListN.{length}
use Rattle.locale_levels.proofs.CountLaws.{Passed}
use Rattle.locale_levels.proofs.rules_left.Given as goal

abbrev pub invariant-loop-rule : goal.invariant-loop-rule
invariant-loop-rule l = Passed l.src.signs l.src.bytes.now l.initial.q l.q l.n l.known

abbrev pub decreases-loop-rule : goal.decreases-loop-rule
decreases-loop-rule l = length l.src.bytes.now - l.q.at
