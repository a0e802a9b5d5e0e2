-- `order_entries::next_element` meets its contract. The loop's invariant: what was to come is what the elements from the i-th on give, with the n before it counted.
use Rattle.order_entries.proofs.WalkLaws.{Passing}
use Rattle.table_layout.specs.Parts.{rule_as}
use Rattle.order_entries.proofs.next_element.Given as goal

abbrev pub invariant-loop-i : goal.invariant-loop-i
invariant-loop-i l = Passing l.t l.places l.level (rule_as l.rule) l.passed l.skipped l.i l.n
