use Rattle.text_lines.proofs.WalkLaws.{joined-mark, joined-more}
use Rattle.text_lines.proofs.next_mark.Goals as goal

pub returns-in-Mark : goal.returns-in-Mark
returns-in-Mark c = search joined-mark

pub loop-m-preserved : goal.loop-m-preserved
loop-m-preserved c = search joined-more
