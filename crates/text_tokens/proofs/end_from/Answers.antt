use Rattle.text_tokens.proofs.NameLaws.{name-more, name-foul, name-ends}
use Rattle.text_tokens.proofs.end_from.Goals as goal

pub loop-b-preserved-then-visible : goal.loop-b-preserved-then-visible
loop-b-preserved-then-visible c = search name-more

pub loop-b-preserved : goal.loop-b-preserved
loop-b-preserved c = search name-foul

pub returns-in-Close : goal.returns-in-Close
returns-in-Close c = search name-ends
