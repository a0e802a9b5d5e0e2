-- `table_check::check` meets its contract: the header of an accepted table counts what its meaning has.
use Rattle.std.proofs.Common.{get_or, arith}
use Rattle.table_layout.proofs.LayoutLaws.{end_fits}
use Rattle.table_check.proofs.ShapeLaws.{accepted-headed, check-refused, check-accepted}
use Rattle.table_check.proofs.check.Goals as goal

pub bounds-t-0 : goal.bounds-t-0
bounds-t-0 c = omega (arith, accepted-headed c.args.t.now c.accepts.ensures c.if-not-accepts.false)

pub overflow_cast-levels : goal.overflow_cast-levels
overflow_cast-levels c = omega (arith, c.type_inv.t 0)

pub bounds-t-1 : goal.bounds-t-1
bounds-t-1 c = omega (arith, accepted-headed c.args.t.now c.accepts.ensures c.if-not-accepts.false)

pub overflow_cast-items : goal.overflow_cast-items
overflow_cast-items c = omega (arith, c.type_inv.t 1)

pub bounds-t-2 : goal.bounds-t-2
bounds-t-2 c = omega (arith, accepted-headed c.args.t.now c.accepts.ensures c.if-not-accepts.false)

pub overflow_cast-weights : goal.overflow_cast-weights
overflow_cast-weights c = omega (arith, c.type_inv.t 2)

pub weights_part-requires : goal.weights_part-requires
weights_part-requires c = omega (arith, accepted-headed c.args.t.now c.accepts.ensures c.if-not-accepts.false)

pub overflow_add-size : goal.overflow_add-size
overflow_add-size c =
    let h = accepted-headed c.args.t.now c.accepts.ensures c.if-not-accepts.false in
    let t = c.args.t.now in
    end_fits (get_or t 0 0) (get_or t 1 0) c.weights_part.ensures h.few-levels h.few-items (c.type_inv.t 2)

pub returns : goal.returns
returns c = search check-accepted

pub returns-then-not-accepts : goal.returns-then-not-accepts
returns-then-not-accepts c = search check-refused
