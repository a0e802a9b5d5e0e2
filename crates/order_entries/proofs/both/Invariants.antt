-- `order_entries::both` meets its contract. The loop's invariant: what the walks have still to come from i and j on, with the entries agreed, decides as what was to come at first did.
use Rattle.table_layout.specs.Parts.{rule_as}
use Rattle.order_entries.proofs.BothLaws.{Alike}
use Rattle.order_entries.proofs.both.Given as goal

abbrev pub invariant-loop-i : goal.invariant-loop-i
invariant-loop-i l = Alike l.t l.a l.b l.level (rule_as l.rule) l.fn.w.x.passed l.fn.w.y.passed l.fn.w.x.skipped l.fn.w.agreed l.end l.i l.j l.skipped l.agreed
