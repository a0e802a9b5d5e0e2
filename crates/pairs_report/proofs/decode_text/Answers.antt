-- `pairs_report::decode_text` meets its contract: decoding answers what the paper calls the text.
use Rattle.pairs_report.proofs.PairLaws.{decoded}
use Rattle.pairs_report.proofs.decode_text.Goals as goal

pub returns : goal.returns
returns c = search decoded
