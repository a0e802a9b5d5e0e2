-- `pairs_report::finish` meets its contract: a text that is open ends with the input.
use Rattle.pairs_report.proofs.FeedLaws.{finish-none, finish-last}
use Rattle.pairs_report.proofs.finish.Goals as goal

pub returns-then-f-eq0 : goal.returns-then-f-eq0
returns-then-f-eq0 c = search finish-none

pub returns : goal.returns
returns c = search finish-last
