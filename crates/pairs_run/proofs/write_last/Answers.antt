-- `pairs_run::write_last` is safe: the line has place in the output's room.
use Rattle.pairs_run.proofs.PieceLaws.{printed-length}
use Rattle.pairs_run.proofs.write_last.Goals as goal

pub slice_bounds-write_all-end-2 : goal.slice_bounds-write_all-end-2
slice_bounds-write_all-end-2 g c = search printed-length
