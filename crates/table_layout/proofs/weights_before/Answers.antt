-- `table_layout::weights_before` meets its contract: the number before the ends of an item and level is the end before them, the first a spare 0.
use Rattle.table_layout.proofs.PartLaws.{table-good, before-inside, before-is, read_at}
use Prim.Native.Nat.{◌+◌, ◌-◌}
use native.Mathlib.Omega.{arith}
use Rattle.table_layout.proofs.weights_before.Goals as goal

pub ends_at-requires : goal.ends_at-requires
ends_at-requires c =
    let g = table-good c.args.t.now c.requires.within.checked in
    (omega (arith, c.requires.levels_value.0, g.few-levels), omega (arith, c.requires.within.in-items, g.few-items))

pub overflow_add-at : goal.overflow_add-at
overflow_add-at c =
    let a = c.args in
    let e = read_at a.t.now a.place c.requires.within a.level a.levels c.ends_at.result c.requires.levels_value.1 c.requires.levels_value.0 c.ends_at.ensures in
    omega (arith, (before-inside a.t.now a.place c.requires.within a.level _ c.requires.levels_value.1 e).2)

pub overflow_sub-result : goal.overflow_sub-result
overflow_sub-result c =
    let a = c.args in
    let e = read_at a.t.now a.place c.requires.within a.level a.levels c.ends_at.result c.requires.levels_value.1 c.requires.levels_value.0 c.ends_at.ensures in
    (before-inside a.t.now a.place c.requires.within a.level _ c.requires.levels_value.1 e).0

pub offset_bounds-t-at : goal.offset_bounds-t-at
offset_bounds-t-at c =
    let a = c.args in
    let e = read_at a.t.now a.place c.requires.within a.level a.levels c.ends_at.result c.requires.levels_value.1 c.requires.levels_value.0 c.ends_at.ensures in
    omega (arith, (before-inside a.t.now a.place c.requires.within a.level _ c.requires.levels_value.1 e).2)

pub bounds-t-at : goal.bounds-t-at
bounds-t-at c =
    let a = c.args in
    let e = read_at a.t.now a.place c.requires.within a.level a.levels c.ends_at.result c.requires.levels_value.1 c.requires.levels_value.0 c.ends_at.ensures in
    (before-inside a.t.now a.place c.requires.within a.level _ c.requires.levels_value.1 e).1

pub overflow_cast-result : goal.overflow_cast-result
overflow_cast-result c = omega (arith, c.type_inv.t (c.ends_at.result + c.args.level - 1))

pub returns : goal.returns
returns c =
    let a = c.args in
    let r = c.ends_at in
    let e = read_at a.t.now a.place c.requires.within a.level a.levels r.result c.requires.levels_value.1 c.requires.levels_value.0 r.ensures in
    let small = c.type_inv.t (r.result + a.level - 1) in
    record { is = before-is a.t.now a.place c.requires.within a.level (r.result + a.level) c.requires.levels_value.1 e; small = omega arith }
