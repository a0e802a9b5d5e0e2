use Rattle.text_tokens.proofs.WordLaws.{in-more}
use Rattle.text_tokens.proofs.end_of_word.Goals as goal

pub loop-r-preserved : goal.loop-r-preserved
loop-r-preserved c = search in-more
