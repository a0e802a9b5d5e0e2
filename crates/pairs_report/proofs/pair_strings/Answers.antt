-- `pairs_report::pair_strings` meets its contract: the comparison decides, and its answer is printed.
use Rattle.pairs_report.proofs.PairLaws.{decided-prints, refused-never}
use Rattle.pairs_report.proofs.pair_strings.Goals as goal

pub returns-in-Ok : goal.returns-in-Ok
returns-in-Ok c = search decided-prints

pub returns-in-Err : goal.returns-in-Err
returns-in-Err c = search refused-never
