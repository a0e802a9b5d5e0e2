-- `text_names::next_name` meets its contract. The invariant: no name is passed. The measure is what is left of the source.
use Rattle.text_names.proofs.WalkLaws.{Nameless}
use Prim.Native.Nat.{◌-◌}
use lib.ListN.{length}
use Rattle.text_names.proofs.next_name.Given as goal

abbrev pub invariant-loop-m : goal.invariant-loop-m
invariant-loop-m l = Nameless l.src.signs l.src.bytes.now l.initial.q l.q

abbrev pub decreases-loop-m : goal.decreases-loop-m
decreases-loop-m l = length l.src.bytes.now - l.q.at
