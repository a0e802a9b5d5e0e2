-- `charmap_entry::parts_of` meets its contract: the line up to its digits, the comment behind them, and the LFs of both.
use Rattle.charmap_entry.proofs.EntryLaws.{parts_are}
use Rattle.charmap_entry.proofs.parts_of.Goals as goal

pub returns : goal.returns
returns c = search parts_are
