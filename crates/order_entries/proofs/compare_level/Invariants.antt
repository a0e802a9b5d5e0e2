-- `order_entries::compare_level` meets its contract. The loop's invariant: the run over what both walks have still to come, with the entries passed, is the run over the whole levels. The measure is how many entries the first walk has still to come.
use Rattle.order_entries.proofs.CompareLaws.{Comparing}
use lib.ListN.{length}
use Rattle.table_layout.specs.Parts.{rule_as}
use Rattle.order_entries.specs.Walk.{entries_left}
use Rattle.order_entries.proofs.compare_level.Given as goal

abbrev pub invariant-loop-e : goal.invariant-loop-e
invariant-loop-e l = Comparing l.t l.a l.b l.level (rule_as l.rule) (record { x = l.x; y = l.y; agreed = l.agreed })

abbrev pub decreases-loop-e : goal.decreases-loop-e
decreases-loop-e l = length (entries_left l.t l.a l.level (rule_as l.rule) l.x)
