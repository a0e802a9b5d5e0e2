-- `charmap_entry::names_at` meets its contract: one name, or a range.
use Rattle.charmap_entry.proofs.HeadLaws.{head-none, head-to, head-end, head-other, head-dot, head-no-range, head-range}
use Rattle.charmap_entry.proofs.names_at.Goals as goal

pub returns-in_err-refusal : goal.returns-in_err-refusal
returns-in_err-refusal c = rw c.from_residual.ensures (head-none c.args.src.signs c.args.src.bytes.now c.args.p c.name_at.ensures c.in_err-refusal.was)

pub next_mark-requires : goal.next_mark-requires
next_mark-requires c = head-to c.args.src.signs c.args.src.bytes.now c.args.p c.name_at.ensures c.in_ok-refusal.was

pub returns-in_default : goal.returns-in_default
returns-in_default c = head-end c.args.src.signs c.args.src.bytes.now c.args.p c.name_at.ensures c.in_ok-refusal.was c.next_mark.ensures c.in_default.is

pub returns-then-m-ne46 : goal.returns-then-m-ne46
returns-then-m-ne46 c =
    head-other c.args.src.signs c.args.src.bytes.now c.args.p c.name_at.ensures c.in_ok-refusal.was c.next_mark.ensures c.in-Some.is c.if-m-ne46.true

pub second_name-requires : goal.second_name-requires
second_name-requires c = head-dot c.args.src.signs c.args.src.bytes.now c.args.p c.name_at.ensures c.in_ok-refusal.was c.next_mark.ensures c.in-Some.is c.if-m-ne46.false

pub returns-in_err-f : goal.returns-in_err-f
returns-in_err-f c =
    rw c.from_residual-in_err-f.ensures
    (head-no-range c.args.src.signs c.args.src.bytes.now c.args.p c.name_at.ensures c.in_ok-refusal.was c.next_mark.ensures c.in-Some.is c.if-m-ne46.false c.second_name.ensures c.in_err-f.was)

pub returns : goal.returns
returns c =
    head-range c.args.src.signs c.args.src.bytes.now c.args.p c.name_at.ensures c.in_ok-refusal.was c.next_mark.ensures c.in-Some.is c.if-m-ne46.false c.second_name.ensures c.in_ok-f.was c.lower_of.ensures
