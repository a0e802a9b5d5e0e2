-- `locale_levels::write_left` meets its contract. The invariant: the rules from q on are still to be written, from i on. The measure is what is left of the source.
use Prim.Native.Nat.{◌-◌}
use lib.ListN.{length}
use Rattle.locale_levels.proofs.WriteLaws.{Writing}
use Rattle.locale_levels.proofs.write_left.Given as goal

abbrev pub invariant-loop-rule : goal.invariant-loop-rule
invariant-loop-rule l = Writing l.src.signs l.src.bytes.now l.initial.q l.initial.area l.at l.q l.area l.i

abbrev pub decreases-loop-rule : goal.decreases-loop-rule
decreases-loop-rule l = length l.src.bytes.now - l.q.at
