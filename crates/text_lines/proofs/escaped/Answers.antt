-- `text_lines::escaped` meets its contract: a law for each way.
use Prim.Native.Nat.{◌+◌, ◌<◌}
use native.Mathlib.Omega.{arith}
use Rattle.text_lines.proofs.LineLaws.{pair-last, pair-join, pair-dead, pair-in}
use Rattle.text_lines.proofs.escaped.Goals.{then-p-eq-IN_PLAIN, else-p-eq-IN_PLAIN}
use Rattle.text_lines.proofs.escaped.Goals as goal

pub returns-then-next-src : goal.returns-then-next-src
returns-then-next-src c = search pair-last

pub returns-then-b-eq10 : goal.returns-then-b-eq10
returns-then-b-eq10 c = search pair-join

pub returns : goal.returns
returns c =
    let h = c.if-next-src.false in
    let e = c.mark_of-2.ensures.0 in
    let small = c.mark_of-2.ensures.1 in
    let n = c.if-b-eq10.false in
    elim c.if-p-eq-IN_PLAIN.branch [
      | then-p-eq-IN_PLAIN w ↦ rw w.offset-is (pair-dead c.requires h e small n w.if-p-eq-IN_PLAIN.true)
      | else-p-eq-IN_PLAIN w ↦ rw w.offset-is (pair-in c.requires h e small n w.if-p-eq-IN_PLAIN.false)
    ]
