-- `order_directory::all_good` meets its contract. The loop's invariant: the strings of the parts before the i-th are good, so that those from it on decide.
use Rattle.rules.specs.Directory.{good_part}
use Rattle.order_directory.proofs.PartLaws.{Passing}
use Rattle.order_directory.proofs.all_good.Given as goal

abbrev pub invariant-loop-i : goal.invariant-loop-i
invariant-loop-i l = Passing (good_part l.run) l.parts l.i
