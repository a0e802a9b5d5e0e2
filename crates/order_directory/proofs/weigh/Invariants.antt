-- `order_directory::weigh` meets its contract. The loop's invariant: the weights before i are kept and rise up to the last of them, so that those from i on decide.
use Rattle.order_directory.proofs.HeadingLaws.{Weighing}
use Rattle.order_directory.proofs.weigh.Given as goal

abbrev pub invariant-loop-i : goal.invariant-loop-i
invariant-loop-i l = Weighing l.t l.run l.headings l.initial.places l.initial.weights l.n l.places l.weights l.last l.i
