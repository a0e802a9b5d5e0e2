use borrow.Author.Rules.{rules}
use Rattle.pairs_run.proofs.PieceLaws.{consuming-none, consuming-ready, fed-inside, fed-length, consuming-less, consuming-more, consuming-all}
use Rattle.pairs_run.proofs.consume.Goals as goal

pub loop-g-init : goal.loop-g-init
loop-g-init g c = search consuming-none

pub feed-h-requires : goal.feed-h-requires
feed-h-requires g c = search (rules, consuming-ready)

pub slice_bounds-write_all-end : goal.slice_bounds-write_all-end
slice_bounds-write_all-end g c = search fed-inside

pub slice_bounds-write_all-end-in-loop-g : goal.slice_bounds-write_all-end-in-loop-g
slice_bounds-write_all-end-in-loop-g g c = search fed-length

pub loop-g-smaller : goal.loop-g-smaller
loop-g-smaller g c = search consuming-less

pub loop-g-preserved : goal.loop-g-preserved
loop-g-preserved g c = search consuming-more

pub returns : goal.returns
returns g c = search consuming-all
