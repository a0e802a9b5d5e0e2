-- `charmap_entry::entry_at` meets its contract: blanks, names and the byte, or a plain line.
use Rattle.charmap_entry.proofs.EntryLaws.{entry-plain, entry-no-name, entry_next, entry-no-byte, entry_whole}
use Rattle.charmap_entry.proofs.entry_at.Goals as goal

pub names_at-requires : goal.names_at-requires
names_at-requires c = entry-plain c.args.src.signs c.args.src.bytes.now c.args.at c.skip_gaps-q.ensures

pub returns-in_err-h : goal.returns-in_err-h
returns-in_err-h c = rw c.from_residual.ensures (entry-no-name c.args.src.signs c.args.src.bytes.now c.args.at c.skip_gaps-q.ensures c.names_at.ensures c.in_err-h.was)

pub byte_at-requires : goal.byte_at-requires
byte_at-requires c = entry_next c.args.src.signs c.args.src.bytes.now c.args.at c.skip_gaps-q.ensures c.names_at.ensures c.in_ok-h.was

pub returns-in_err-v : goal.returns-in_err-v
returns-in_err-v c =
    rw c.from_residual-in_err-v.ensures
    (entry-no-byte c.args.src.signs c.args.src.bytes.now c.args.at c.skip_gaps-q.ensures c.names_at.ensures c.in_ok-h.was c.byte_at.ensures c.in_err-v.was)

pub parts_of-requires : goal.parts_of-requires
parts_of-requires c = entry_whole c.args.src.signs c.args.src.bytes.now c.args.at c.skip_gaps-q.ensures c.names_at.ensures c.in_ok-h.was c.byte_at.ensures c.requires c.in_ok-v.was
