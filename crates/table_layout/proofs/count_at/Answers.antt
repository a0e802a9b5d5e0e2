-- `table_layout::count_at` meets its contract: from the end before to the end of the level stand the level's weights.
use Rattle.table_layout.proofs.PartLaws.{table-good, within_first, many-at}
use native.Mathlib.Omega.{arith}
use Rattle.table_layout.proofs.count_at.Goals as goal

pub weights_before-before-requires : goal.weights_before-before-requires
weights_before-before-requires c =
    let a = c.args in
    record { within = within_first a.t.now a.place a.level c.requires; levels_value = (c.levels-l.ensures, omega (arith, c.requires.in-levels)) }

pub overflow_add-level : goal.overflow_add-level
overflow_add-level c =
    omega (arith, c.requires.in-levels, (table-good c.args.t.now c.requires.checked).few-levels)

pub weights_before-to-requires : goal.weights_before-to-requires
weights_before-to-requires c =
    let a = c.args in
    record { within = within_first a.t.now a.place a.level c.requires; levels_value = (c.levels-l.ensures, omega (arith, c.requires.in-levels)) }

pub overflow_sub-result : goal.overflow_sub-result
overflow_sub-result c =
    let a = c.args in
    (many-at a.t.now a.place a.level c.requires c.weights_before-before.result c.weights_before-to.result c.weights_before-before.ensures c.weights_before-to.ensures).0

pub returns : goal.returns
returns c =
    let a = c.args in
    (many-at a.t.now a.place a.level c.requires c.weights_before-before.result c.weights_before-to.result c.weights_before-before.ensures c.weights_before-to.ensures).1
