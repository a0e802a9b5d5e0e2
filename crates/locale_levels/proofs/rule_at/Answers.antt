use Rattle.locale_levels.proofs.RuleLaws.{begun-none, begun_more, rule-broken, rule-last, rule-less, rule-token, rule-more, rule-ill}
use Rattle.locale_levels.proofs.rule_at.Goals as goal

pub loop-r-init : goal.loop-r-init
loop-r-init c = search begun-none

pub returns-then-t-eq-SEMI : goal.returns-then-t-eq-SEMI
returns-then-t-eq-SEMI c = search rule-more

pub symbol_at-requires : goal.symbol_at-requires
symbol_at-requires c = rule-token _ _ _ _ _ _ {o = c.next_operand.result} c.loop-r.invariant c.next_operand.ensures c.in-Token.is

pub loop-r-smaller : goal.loop-r-smaller
loop-r-smaller c = search rule-less

pub loop-r-preserved : goal.loop-r-preserved
loop-r-preserved c = search begun_more

pub returns-then-not-well_placed : goal.returns-then-not-well_placed
returns-then-not-well_placed c = search rule-ill

pub returns-in-Broken : goal.returns-in-Broken
returns-in-Broken c = search rule-broken

pub returns-in-End : goal.returns-in-End
returns-in-End c = search rule-last
