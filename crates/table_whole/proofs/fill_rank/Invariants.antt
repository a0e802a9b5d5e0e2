-- `table_whole::fill_rank` meets its contract. The loop's invariant: what is still to come makes up the whole.
use Prim.Native.Nat.{◌+◌, ◌-◌}
use Rattle.table_whole.proofs.FrontLaws.{Repeating}
use Rattle.table_whole.proofs.fill_rank.Given as goal

abbrev pub invariant-loop-k : goal.invariant-loop-k
invariant-loop-k l = Repeating l.initial.area l.at l.n l.r.0 l.area (l.at + l.k) (l.n - l.k)
