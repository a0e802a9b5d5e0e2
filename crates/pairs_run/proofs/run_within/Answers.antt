-- `pairs_run::run_within` is safe: the input is read where the table is accepted.
use Rattle.pairs_run.proofs.OpenLaws.{closed-inside, closed-length, reading-inside, reading-length, reading-good, files-room}
use Rattle.pairs_run.proofs.run_within.Goals as goal

pub slice_bounds-write_all-end : goal.slice_bounds-write_all-end
slice_bounds-write_all-end g c = search closed-inside

pub slice_bounds-write_all-end-in-Closed : goal.slice_bounds-write_all-end-in-Closed
slice_bounds-write_all-end-in-Closed g c = search closed-length

pub slice_bounds-write_all-end-in-Reading : goal.slice_bounds-write_all-end-in-Reading
slice_bounds-write_all-end-in-Reading g c = search reading-inside

pub slice_bounds-write_all-end-in-Reading-2 : goal.slice_bounds-write_all-end-in-Reading-2
slice_bounds-write_all-end-in-Reading-2 g c = search reading-length

pub read_with-requires : goal.read_with-requires
read_with-requires g c = (search reading-good, search files-room)
