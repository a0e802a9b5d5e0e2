use mathlib.Core.Path.{◌≡◌}
use Prim.Native.Nat.{suc, ◌+◌, ◌-◌, ◌≤◌}
use native.Mathlib.Omega.{arith}
use borrow.Author.Rules.{rules}
use Rattle.table_items.proofs.SumLaws.{summing-none, summing-row, summing-chars, summing-inside, summing-small, summing-fits, summing-item, summing-other, summing-unranked, summing-all}
use Rattle.table_items.proofs.measure_lines.Goals as goal
use Rattle.table_items.proofs.measure_lines.Goals.{then-is_item, else-is_item}

pub loop-init : goal.loop-init
loop-init c =
    let e : c.args.o.count - 0 ≡ c.args.o.count = omega arith in
    rw e (search summing-none)

pub measure_item-m-requires : goal.measure_item-m-requires
measure_item-m-requires c =
    let e : suc (c.args.o.count - (c.loop.counter + 1)) ≡ c.args.o.count - c.loop.counter = omega arith in
    record { row_ready = search summing-row; sound = search rules }

pub least_line-line-requires : goal.least_line-line-requires
least_line-line-requires c =
    let e : suc (c.args.o.count - (c.loop.counter + 1)) ≡ c.args.o.count - c.loop.counter = omega arith in
    search summing-inside

pub is_item-requires : goal.is_item-requires
is_item-requires c =
    let e : suc (c.args.o.count - (c.loop.counter + 1)) ≡ c.args.o.count - c.loop.counter = omega arith in
    search summing-chars

pub overflow_add-items : goal.overflow_add-items
overflow_add-items c =
    let e : suc (c.args.o.count - (c.loop.counter + 1)) ≡ c.args.o.count - c.loop.counter = omega arith in
    search (rules, summing-small)

pub overflow_add-weights : goal.overflow_add-weights
overflow_add-weights c =
    let e : suc (c.args.o.count - (c.loop.counter + 1)) ≡ c.args.o.count - c.loop.counter = omega arith in
    search (rules, summing-fits)

pub told-v-requires : goal.told-v-requires
told-v-requires c =
    let e : suc (c.args.o.count - (c.loop.counter + 1)) ≡ c.args.o.count - c.loop.counter = omega arith in
    (search rules, search summing-inside)

pub loop-preserved : goal.loop-preserved
loop-preserved c =
    let e : suc (c.args.o.count - (c.loop.counter + 1)) ≡ c.args.o.count - c.loop.counter = omega arith in
    elim c.if-is_item.branch [ then-is_item w ↦ search summing-item | else-is_item w ↦ search summing-other ]

pub returns-then-whole : goal.returns-then-whole
returns-then-whole c =
    let l : c.args.o.count - c.loop.counter ≤ 0 = omega arith in
    search summing-all

pub returns-else-whole : goal.returns-else-whole
returns-else-whole c =
    let l : c.args.o.count - c.loop.counter ≤ 0 = omega arith in
    search summing-unranked
