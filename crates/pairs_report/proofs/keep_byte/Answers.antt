-- `pairs_report::keep_byte` meets its contract: the byte is stored, or there is no room for it.
use Rattle.pairs_report.proofs.RunLaws.{byte-kept, byte-lost}
use Rattle.pairs_report.proofs.keep_byte.Goals as goal

pub returns-then-n-kept : goal.returns-then-n-kept
returns-then-n-kept c = search byte-kept

pub returns : goal.returns
returns c = search byte-lost
