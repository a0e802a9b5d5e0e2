-- `pairs_report::feed_run` meets its contract: with LF behind the run its text ends, without it stays open.
use Rattle.pairs_report.proofs.FeedLaws.{run_length, run_room, feed-room, fed-line, fed-part}
use Rattle.pairs_report.proofs.feed_run.Goals as goal

pub slice_bounds-put_text-end-then-at-piece : goal.slice_bounds-put_text-end-then-at-piece
slice_bounds-put_text-end-then-at-piece c = search run_length

pub put_text-last-requires : goal.put_text-last-requires
put_text-last-requires c = search run_room

pub overflow_add-result-then-at-piece : goal.overflow_add-result-then-at-piece
overflow_add-result-then-at-piece c = search feed-room

pub returns-then-at-piece : goal.returns-then-at-piece
returns-then-at-piece c = search fed-line

pub returns : goal.returns
returns c = search fed-part
