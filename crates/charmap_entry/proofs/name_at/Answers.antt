-- `charmap_entry::name_at` meets its contract: a law for each mark that may stand there.
use Rattle.charmap_entry.proofs.HeadLaws.{name-end, name-other, name-inside, name-left-open, name-found}
use Rattle.charmap_entry.proofs.name_at.Goals as goal

pub returns-in_err-m : goal.returns-in_err-m
returns-in_err-m c = rw c.from_residual.ensures (name-end c.args.src.signs c.args.src.bytes.now c.args.p c.requires.1 c.next_mark.ensures c.in_err-m.was)

pub returns-then-m-ne60 : goal.returns-then-m-ne60
returns-then-m-ne60 c = name-other c.args.src.signs c.args.src.bytes.now c.args.p c.requires.1 c.next_mark.ensures c.in_ok-m.was c.if-m-ne60.true

pub end_of_name-requires : goal.end_of_name-requires
end_of_name-requires c = name-inside c.args.src.signs c.args.src.bytes.now c.args.p c.requires.1 c.next_mark.ensures c.in_ok-m.was c.if-m-ne60.false

pub returns-in_err-f : goal.returns-in_err-f
returns-in_err-f c =
    rw c.from_residual-in_err-f.ensures
    (name-left-open c.args.src.signs c.args.src.bytes.now c.args.p c.requires.1 c.next_mark.ensures c.in_ok-m.was c.if-m-ne60.false c.end_of_name.ensures c.in_err-f.was)

pub returns : goal.returns
returns c =
    name-found c.args.src.signs c.args.src.bytes.now c.args.p c.requires.1 c.next_mark.ensures c.in_ok-m.was c.if-m-ne60.false c.end_of_name.ensures c.in_ok-f.was
