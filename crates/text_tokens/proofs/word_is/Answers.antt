use Rattle.text_tokens.proofs.WordLaws.{alike-short, alike-not, alike-more, alike_end}
use Rattle.text_tokens.proofs.word_is.Goals as goal

pub returns-in_default : goal.returns-in_default
returns-in_default c = search alike-not

pub returns-in_default-2 : goal.returns-in_default-2
returns-in_default-2 c = search alike-short

pub loop-b-preserved : goal.loop-b-preserved
loop-b-preserved c = search alike-more

pub returns : goal.returns
returns c = search alike_end
