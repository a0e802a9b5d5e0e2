-- `order_directory::all_inside` meets its contract. The loop's invariant: the parts before the i-th lie in the run, so that those from it on decide.
use Rattle.rules.specs.Directory.{in_run}
use Rattle.order_directory.proofs.PartLaws.{Passing}
use Rattle.order_directory.proofs.all_inside.Given as goal

abbrev pub invariant-loop-i : goal.invariant-loop-i
invariant-loop-i l = Passing (in_run l.run) l.parts l.i
