use Rattle.cases_words.proofs.PutLaws.{line-put}
use Rattle.cases_words.proofs.put_line.Goals as goal

pub returns : goal.returns
returns c = search line-put
