use Prim.Native.Nat.{suc, ◌+◌, ◌-◌, ◌≤◌}
use mathlib.Core.Path.{◌≡◌}
use native.Mathlib.Omega.{arith}
use Rattle.table_weights.proofs.MeasureLaws.{measuring-none, measuring-small, measuring-more, measuring-all}
use borrow.Author.Rules.{rules}
use Rattle.table_weights.proofs.measure_line.Goals as goal

pub loop-init : goal.loop-init
loop-init c =
    let e : c.args.levels - 0 ≡ c.args.levels = omega arith in
    rw e (search measuring-none)

pub overflow_add-weights : goal.overflow_add-weights
overflow_add-weights c =
    let e : suc (c.args.levels - (c.loop.counter + 1)) ≡ c.args.levels - c.loop.counter = omega arith in
    search (rules, measuring-small)

pub loop-preserved : goal.loop-preserved
loop-preserved c =
    let e : suc (c.args.levels - (c.loop.counter + 1)) ≡ c.args.levels - c.loop.counter = omega arith in
    search measuring-more

pub returns : goal.returns
returns c =
    let l : c.args.levels - c.loop.counter ≤ 0 = omega arith in
    search measuring-all
