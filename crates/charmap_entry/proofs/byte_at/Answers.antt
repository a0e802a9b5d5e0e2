-- `charmap_entry::byte_at` meets its contract: blanks, and the pair behind them.
use Rattle.charmap_entry.proofs.ByteLaws.{gap-end, gap_other, gap-plain, gap-byte}
use Rattle.charmap_entry.proofs.byte_at.Goals as goal

pub returns-in_err-m : goal.returns-in_err-m
returns-in_err-m c = rw c.from_residual.ensures (gap-end c.args.src.signs c.args.src.bytes.now c.args.p c.requires.1 c.next_mark.ensures c.in_err-m.was)

pub skip_gaps-requires : goal.skip_gaps-requires
skip_gaps-requires c = gap-plain c.args.src.signs c.args.src.bytes.now c.args.p c.requires.1 c.next_mark.ensures c.in_ok-m.was c.if-m-eq9.either

pub returns-then-m-eq9 : goal.returns-then-m-eq9
returns-then-m-eq9 c =
    gap-byte c.args.src.signs c.args.src.bytes.now c.args.p c.requires.1 c.next_mark.ensures c.in_ok-m.was c.if-m-eq9.either c.skip_gaps.ensures _ c.escaped_byte.ensures

pub returns-else-m-eq9 : goal.returns-else-m-eq9
returns-else-m-eq9 c = gap_other c.args.src.signs c.args.src.bytes.now c.args.p c.requires.1 c.next_mark.ensures c.in_ok-m.was c.if-m-eq9.false
