-- `charmap_entry::second_name` meets its contract: the second dot, and the name behind it.
use Rattle.charmap_entry.proofs.HeadLaws.{dot-end, dot-other, dot-plain, dot-name}
use Rattle.charmap_entry.proofs.second_name.Goals as goal

pub returns-in_err-m : goal.returns-in_err-m
returns-in_err-m c = rw c.from_residual.ensures (dot-end c.args.src.signs c.args.src.bytes.now c.args.p c.requires.1 c.next_mark.ensures c.in_err-m.was)

pub name_at-requires : goal.name_at-requires
name_at-requires c = dot-plain c.args.src.signs c.args.src.bytes.now c.args.p c.requires.1 c.next_mark.ensures c.in_ok-m.was c.if-m-eq46.true

pub returns-then-m-eq46 : goal.returns-then-m-eq46
returns-then-m-eq46 c =
    dot-name c.args.src.signs c.args.src.bytes.now c.args.p c.requires.1 c.next_mark.ensures c.in_ok-m.was c.if-m-eq46.true _ c.name_at.ensures

pub returns-else-m-eq46 : goal.returns-else-m-eq46
returns-else-m-eq46 c = dot-other c.args.src.signs c.args.src.bytes.now c.args.p c.requires.1 c.next_mark.ensures c.in_ok-m.was c.if-m-eq46.false
