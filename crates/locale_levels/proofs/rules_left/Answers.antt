use Rattle.locale_levels.proofs.CountLaws.{passed_none, passed-more, passed-less, passed-last, passed-broken}
use Rattle.locale_levels.proofs.rules_left.Goals as goal

pub loop-rule-init : goal.loop-rule-init
loop-rule-init c = search passed_none

pub loop-rule-smaller : goal.loop-rule-smaller
loop-rule-smaller c = search passed-less

pub loop-rule-preserved : goal.loop-rule-preserved
loop-rule-preserved c = search passed-more

pub returns-in-Last : goal.returns-in-Last
returns-in-Last c = search passed-last

pub returns-in-Broken : goal.returns-in-Broken
returns-in-Broken c = search passed-broken
