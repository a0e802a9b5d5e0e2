-- `pairs_run::read_pieces` meets its contract. The loop's invariant: the texts so far are no more than the bytes of the pieces so far. The measure is how many pieces may come.
use Prim.Native.Nat.{◌-◌}
use Rattle.pairs_run.proofs.PieceLaws.{Reading}
use Rattle.pairs_run.proofs.read_pieces.Given as goal

abbrev pub invariant-loop-pieces : goal.invariant-loop-pieces
invariant-loop-pieces g l = Reading l.t l.initial.piece l.initial.before l.initial.current l.initial.out l.piece l.before l.current l.out l.g l.pieces

abbrev pub decreases-loop-pieces : goal.decreases-loop-pieces
decreases-loop-pieces g l = 0x400000000000 - l.pieces
