-- `locale_skips::to_end` meets its contract. The invariant: no END line of the category is passed. The measure is what is left of the source.
use mathlib.Core.Path.{◌≡◌}
use Prim.Native.Nat.{◌-◌}
use lib.ListN.{length}
use Rattle.locale_skips.specs.Passing.{InCategory}
use Rattle.locale_skips.proofs.to_end.Given as goal

abbrev pub invariant-loop-g : goal.invariant-loop-g
invariant-loop-g l = record {
  source : l.q.src ≡ l.initial.q.src;
  passed : InCategory l.g l.initial.q.src.now l.initial.q.at l.initial.q.number l.name l.q.at l.q.number;
}

abbrev pub decreases-loop-g : goal.decreases-loop-g
decreases-loop-g l = length l.initial.q.src.now - l.q.at
