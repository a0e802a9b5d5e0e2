-- `charmap_entry::two_digits` meets its contract: a law for each mark that may stand there.
use Rattle.charmap_entry.proofs.ByteLaws.{digits-two}
use Rattle.charmap_entry.proofs.two_digits.Goals as goal

pub returns : goal.returns
returns c =
    digits-two c.args.src.signs c.args.src.bytes.now c.args.p c.requires.1 c.next_mark.ensures c.in_ok-m.was c.hex_of.ensures c.in_ok-x.was c.next_mark-2.ensures c.in_ok-n.was c.hex_of-2.ensures c.in_ok-y.was
