use mathlib.Core.Path.{◌≡◌}
use Prim.Native.Nat.{suc, ◌+◌, ◌-◌, ◌≤◌}
use native.Mathlib.Omega.{arith}
use Rattle.table_items.proofs.FillLaws.{writing-none, writing-chars, writing-row, writing-inside, writing-room, writing-slot, writing-place, writing-item, writing-other, writing-all}
use Rattle.table_items.proofs.LineLaws.{item-has}
use borrow.Author.Rules.{rules}
use Rattle.table_items.proofs.write_items.Goals as goal
use Rattle.table_items.proofs.write_items.Goals.{then-is_item, else-is_item}

pub loop-init : goal.loop-init
loop-init c =
    let e : c.args.o.count - 0 ≡ c.args.o.count = omega arith in
    rw e (search writing-none)

pub is_item-requires : goal.is_item-requires
is_item-requires c =
    let e : suc (c.args.o.count - (c.loop.counter + 1)) ≡ c.args.o.count - c.loop.counter = omega arith in
    search writing-chars

pub write_item-next-requires : goal.write_item-next-requires
write_item-next-requires c =
    let e : suc (c.args.o.count - (c.loop.counter + 1)) ≡ c.args.o.count - c.loop.counter = omega arith in
    record { chars_ready = (search writing-chars, search item-has, search writing-row); sound = search rules; item_room = search writing-room }

pub overflow_add-slot : goal.overflow_add-slot
overflow_add-slot c =
    let e : suc (c.args.o.count - (c.loop.counter + 1)) ≡ c.args.o.count - c.loop.counter = omega arith in
    search writing-slot

pub overflow_add-place : goal.overflow_add-place
overflow_add-place c =
    let e : suc (c.args.o.count - (c.loop.counter + 1)) ≡ c.args.o.count - c.loop.counter = omega arith in
    search writing-place

pub told-v-requires : goal.told-v-requires
told-v-requires c =
    let e : suc (c.args.o.count - (c.loop.counter + 1)) ≡ c.args.o.count - c.loop.counter = omega arith in
    (search rules, search writing-inside)

pub loop-preserved : goal.loop-preserved
loop-preserved c =
    let e : suc (c.args.o.count - (c.loop.counter + 1)) ≡ c.args.o.count - c.loop.counter = omega arith in
    elim c.if-is_item.branch [ then-is_item w ↦ search writing-item | else-is_item w ↦ search writing-other ]

pub returns : goal.returns
returns c =
    let l : c.args.o.count - c.loop.counter ≤ 0 = omega arith in
    search writing-all
