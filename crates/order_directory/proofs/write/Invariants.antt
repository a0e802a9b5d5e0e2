-- `order_directory::write` meets its contract. The loop's invariant: the headings of the topics before i are written, and the rest of the list is as it was.
use Rattle.order_directory.proofs.HeadingLaws.{Listing}
use Rattle.order_directory.proofs.write.Given as goal

abbrev pub invariant-loop-i : goal.invariant-loop-i
invariant-loop-i l = Listing l.t l.run l.topics l.initial.places l.weights l.initial.list l.n l.places l.list l.i
