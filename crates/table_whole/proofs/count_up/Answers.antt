use mathlib.Core.Path.{◌≡◌}
use Prim.Native.Nat.{◌+◌, ◌-◌, ◌≤◌}
use native.Mathlib.Omega.{arith}
use Rattle.table_whole.proofs.FrontLaws.{rising_none, rising-more, rising-all}
use Rattle.table_whole.proofs.count_up.Goals as goal

pub loop-k-init : goal.loop-k-init
loop-k-init c =
    let a = c.args in
    let e : a.at + 0 ≡ a.at = omega arith in
    let f : a.n - 0 ≡ a.n = omega arith in
    let g : a.x + 0 ≡ a.x = omega arith in
    rw (e, f, g) (rising_none a.area.now a.at a.n a.x c.requires.0 c.requires.1)

pub loop-k-preserved : goal.loop-k-preserved
loop-k-preserved c =
    let a = c.args in
    let k = c.loop-k.k in
    let e : a.at + (c.loop-k.k + 1) ≡ a.at + c.loop-k.k + 1 = omega arith in
    let f : a.n - (c.loop-k.k + 1) ≡ a.n - c.loop-k.k - 1 = omega arith in
    let g : a.x + (c.loop-k.k + 1) ≡ a.x + c.loop-k.k + 1 = omega arith in
    rw (e, f, g) (rising-more c.loop-k.invariant (omega arith))

pub returns : goal.returns
returns c = rising-all c.loop-k.invariant (omega arith)
