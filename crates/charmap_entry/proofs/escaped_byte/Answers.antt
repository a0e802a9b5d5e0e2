-- `charmap_entry::escaped_byte` meets its contract: a law for each mark that may stand there, and for what follows the digits.
use Rattle.charmap_entry.proofs.ByteLaws.{pair_end, pair-other, pair-plain, pair-no-digits, pair-to, pair-glued, pair_found}
use Rattle.charmap_entry.proofs.escaped_byte.Goals as goal

pub returns-in_err-m : goal.returns-in_err-m
returns-in_err-m c = rw c.from_residual.ensures (pair_end c.args.src.signs c.args.src.bytes.now c.args.p c.requires.1 c.next_mark.ensures c.in_err-m.was)

pub returns-then-m-ne632 : goal.returns-then-m-ne632
returns-then-m-ne632 c = pair-other c.args.src.signs c.args.src.bytes.now c.args.p c.requires.1 c.next_mark.ensures c.in_ok-m.was c.if-m-ne632.true

pub two_digits-requires : goal.two_digits-requires
two_digits-requires c = pair-plain c.args.src.signs c.args.src.bytes.now c.args.p c.requires.1 c.next_mark.ensures c.in_ok-m.was c.if-m-ne632.false

pub returns-in_err-v : goal.returns-in_err-v
returns-in_err-v c =
    rw c.from_residual-in_err-v.ensures
    (pair-no-digits c.args.src.signs c.args.src.bytes.now c.args.p c.requires.1 c.next_mark.ensures c.in_ok-m.was c.if-m-ne632.false c.two_digits.ensures c.in_err-v.was)

pub tail_at-requires : goal.tail_at-requires
tail_at-requires c =
    pair-to c.args.src.signs c.args.src.bytes.now c.args.p c.requires.1 c.next_mark.ensures c.in_ok-m.was c.if-m-ne632.false c.two_digits.ensures c.in_ok-v.was

pub returns-in_err-i : goal.returns-in_err-i
returns-in_err-i c =
    rw c.from_residual-in_err-i.ensures
    (pair-glued c.args.src.signs c.args.src.bytes.now c.args.p c.requires.1 c.next_mark.ensures c.in_ok-m.was c.if-m-ne632.false c.two_digits.ensures c.in_ok-v.was c.tail_at.ensures c.in_err-i.was)

pub returns : goal.returns
returns c =
    pair_found c.args.src.signs c.args.src.bytes.now c.args.p c.requires.1 c.next_mark.ensures c.in_ok-m.was c.if-m-ne632.false c.two_digits.ensures c.in_ok-v.was c.tail_at.ensures c.in_ok-i.was
