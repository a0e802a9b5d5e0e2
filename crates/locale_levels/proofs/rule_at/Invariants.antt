-- `locale_levels::rule_at` meets its contract. The invariant: what the tokens that are read of the rule come to. The measure is what is left of the source.
use Prim.Native.Nat.{◌-◌}
use lib.ListN.{length}
use Rattle.locale_levels.specs.Numbers.{reading_number}
use Rattle.locale_levels.proofs.RuleLaws.{Begun}
use Rattle.locale_levels.proofs.rule_at.Given as goal

abbrev pub invariant-loop-r : goal.invariant-loop-r
invariant-loop-r l = Begun l.src.signs l.src.bytes.now l.initial.q l.q l.held (reading_number l.s)

abbrev pub decreases-loop-r : goal.decreases-loop-r
decreases-loop-r l = length l.src.bytes.now - l.q.at
