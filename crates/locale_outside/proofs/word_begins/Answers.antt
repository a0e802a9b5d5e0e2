use Rattle.locale_outside.proofs.CategoryLaws.{begun-whole, begun-end, begun-not, begun_more}
use Rattle.locale_outside.proofs.word_begins.Goals as goal

pub loop-c-preserved : goal.loop-c-preserved
loop-c-preserved c = search begun_more

pub returns-in_default : goal.returns-in_default
returns-in_default c = search begun-not

pub returns-in_default-2 : goal.returns-in_default-2
returns-in_default-2 c = search begun-end

pub returns : goal.returns
returns c = search begun-whole
