-- `pairs_report::end_text` meets its contract: the first text makes no pair.
use Rattle.pairs_report.proofs.PairLaws.{part_length}
use Rattle.pairs_report.proofs.FeedLaws.{end_none, end-pair}
use Rattle.pairs_report.proofs.end_text.Goals as goal

pub returns-then-texts-eq0 : goal.returns-then-texts-eq0
returns-then-texts-eq0 c = search end_none

pub slice_bounds-put_pair-end : goal.slice_bounds-put_pair-end
slice_bounds-put_pair-end c = search part_length

pub slice_bounds-put_pair-end-2 : goal.slice_bounds-put_pair-end-2
slice_bounds-put_pair-end-2 c = search part_length

pub returns : goal.returns
returns c = search end-pair
