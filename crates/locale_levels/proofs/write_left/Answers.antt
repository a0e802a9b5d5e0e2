use Rattle.locale_levels.proofs.WriteLaws.{writing-none, writing_more, writing-less, writing-inside, writing-last, writing-last-inside, writing-broken}
use Rattle.locale_levels.proofs.write_left.Goals as goal

pub loop-rule-init : goal.loop-rule-init
loop-rule-init c = search writing-none

pub bounds-area-i : goal.bounds-area-i
bounds-area-i c = search writing-inside

pub loop-rule-smaller : goal.loop-rule-smaller
loop-rule-smaller c = search writing-less

pub loop-rule-preserved : goal.loop-rule-preserved
loop-rule-preserved c = search writing_more

pub bounds-area-i-in-Last : goal.bounds-area-i-in-Last
bounds-area-i-in-Last c = search writing-last-inside

pub returns-in-Last : goal.returns-in-Last
returns-in-Last c = search writing-last

pub returns-in-Broken : goal.returns-in-Broken
returns-in-Broken c = search writing-broken
