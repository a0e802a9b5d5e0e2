use Rattle.table_check.proofs.CharLaws.{characters-none, characters-pad, characters-more, characters-no, characters-all}
use Rattle.table_check.proofs.characters_pass.Goals as goal

pub loop-i-init : goal.loop-i-init
loop-i-init c = search characters-none

pub returns-then-c-eq1114112 : goal.returns-then-c-eq1114112
returns-then-c-eq1114112 c = characters-pad c.loop-i.invariant c.loop-i-test.true c.if-c-eq1114112.true c.all_within.ensures

pub returns-then-not-is_character : goal.returns-then-not-is_character
returns-then-not-is_character c = search characters-no

pub loop-i-preserved : goal.loop-i-preserved
loop-i-preserved c = search characters-more

pub returns : goal.returns
returns c = search characters-all
