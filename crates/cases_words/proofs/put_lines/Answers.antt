use Rattle.cases_words.proofs.PutLaws.{lines-none, lines-more}
use Rattle.cases_words.proofs.put_lines.Goals as goal

pub loop-i-init : goal.loop-i-init
loop-i-init c = search lines-none

pub loop-i-preserved : goal.loop-i-preserved
loop-i-preserved c = search lines-more
