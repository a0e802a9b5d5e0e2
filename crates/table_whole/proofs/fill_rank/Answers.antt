use mathlib.Core.Path.{◌≡◌}
use Prim.Native.Nat.{◌+◌, ◌-◌}
use native.Mathlib.Omega.{arith}
use Rattle.table_whole.proofs.FrontLaws.{repeating-none, repeating-put, repeating-all}
use Rattle.table_whole.proofs.fill_rank.Goals as goal

pub loop-k-init : goal.loop-k-init
loop-k-init c =
    let e : c.args.at + 0 ≡ c.args.at = omega arith in
    let f : c.args.n - 0 ≡ c.args.n = omega arith in
    rw (e, f) (repeating-none c.args.area.now c.args.at c.args.n c.args.r.0 c.requires)

pub loop-k-preserved : goal.loop-k-preserved
loop-k-preserved c =
    let e : c.args.at + (c.loop-k.k + 1) ≡ c.args.at + c.loop-k.k + 1 = omega arith in
    let f : c.args.n - (c.loop-k.k + 1) ≡ c.args.n - c.loop-k.k - 1 = omega arith in
    rw (e, f) (repeating-put c.loop-k.invariant (omega arith) (omega arith) c.put_rank.ensures)

pub returns : goal.returns
returns c = repeating-all c.loop-k.invariant (omega arith)
