-- `table_whole::count_up` meets its contract. The loop's invariant: what is still to come makes up the whole.
use Prim.Native.Nat.{◌+◌, ◌-◌}
use Rattle.table_whole.proofs.FrontLaws.{Rising}
use Rattle.table_whole.proofs.count_up.Given as goal

abbrev pub invariant-loop-k : goal.invariant-loop-k
invariant-loop-k l = Rising l.initial.area l.at l.n l.x l.area (l.at + l.k) (l.n - l.k) (l.x + l.k)
