-- `locale_outside::capitals` meets its contract. The invariant: so many bytes are passed, and all are capitals or underscores. The measure is what is
-- left of the source.
use Rattle.locale_outside.proofs.CategoryLaws.{InCapitals}
use Prim.Native.Nat.{◌-◌}
use lib.ListN.{length}
use Rattle.locale_outside.proofs.capitals.Given as goal

abbrev pub invariant-loop-b : goal.invariant-loop-b
invariant-loop-b l = InCapitals l.src.signs l.src.bytes.now l.initial.q l.q l.n

abbrev pub decreases-loop-b : goal.decreases-loop-b
decreases-loop-b l = length l.src.bytes.now - l.q.at
