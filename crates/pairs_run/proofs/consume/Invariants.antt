-- `pairs_run::consume` meets its contract. The loop's invariant: nothing that was printed waits to be written. The measure is how many bytes are left.
use Prim.Native.Nat.{◌-◌}
use lib.ListN.{length}
use Rattle.pairs_run.proofs.PieceLaws.{Consuming}
use Rattle.pairs_run.proofs.consume.Given as goal

abbrev pub invariant-loop-g : goal.invariant-loop-g
invariant-loop-g g l = Consuming l.piece l.initial.g l.initial.before l.initial.current l.initial.out l.g l.before l.current l.out

abbrev pub decreases-loop-g : goal.decreases-loop-g
decreases-loop-g g l = length l.piece - l.g.at
