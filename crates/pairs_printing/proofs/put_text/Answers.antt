-- `pairs_printing::put_text` meets its contract: the bytes stand in the room, the rest of it stays.
use Rattle.pairs_printing.proofs.TextLaws.{text-length, text-put}
use Rattle.pairs_printing.proofs.put_text.Goals as goal

pub copy_from_slice-requires : goal.copy_from_slice-requires
copy_from_slice-requires c = search text-length

pub returns : goal.returns
returns c = search text-put
