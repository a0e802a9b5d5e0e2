-- `table_layout::weights_in` meets its contract: an item's weights at a level stand from the end before them to their own.
use Rattle.table_layout.proofs.PartLaws.{table-good, within_first, many-at, weights-held, shaped-near}
use native.Mathlib.Omega.{arith}
use Rattle.table_layout.proofs.weights_in.Goals as goal

pub weights_before-before-requires : goal.weights_before-before-requires
weights_before-before-requires c =
    let a = c.args in
    record { within = within_first a.t.now a.place a.level c.requires.within; levels_value = (c.requires.shaped.levels-are, omega (arith, c.requires.within.in-levels)) }

pub overflow_add-level : goal.overflow_add-level
overflow_add-level c =
    omega (arith, c.requires.within.in-levels, (table-good c.args.t.now c.requires.within.checked).few-levels)

pub weights_before-to-requires : goal.weights_before-to-requires
weights_before-to-requires c =
    let a = c.args in
    record { within = within_first a.t.now a.place a.level c.requires.within; levels_value = (c.requires.shaped.levels-are, omega (arith, c.requires.within.in-levels)) }

pub overflow_add-result : goal.overflow_add-result
overflow_add-result c =
    omega (arith, shaped-near c.requires.shaped, c.weights_before-before.ensures.small)

pub overflow_sub-result : goal.overflow_sub-result
overflow_sub-result c =
    let a = c.args in
    (many-at a.t.now a.place a.level c.requires.within c.weights_before-before.result c.weights_before-to.result c.weights_before-before.ensures c.weights_before-to.ensures).0

pub returns : goal.returns
returns c =
    let a = c.args in
    weights-held a.t.now a.place a.level c.requires.within c.weights_before-before.result c.weights_before-to.result c.weights_before-before.ensures
    c.weights_before-to.ensures a.shape.weights c.requires.shaped.weights-are
