-- `cases_directory::texts::cut` writes no number past the end. The loop's invariant: a string begins at or before i, and at most two numbers are written for each byte before i.
use Prim.Native.Nat.{◌*◌, ◌≤◌}
use Rattle.cases_directory.proofs.texts.cut.Given as goal

abbrev pub invariant-loop-i : goal.invariant-loop-i
invariant-loop-i l = (l.start ≤ l.i) × (l.n ≤ 2 * l.i)
