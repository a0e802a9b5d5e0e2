use Rattle.cases_words.proofs.PutLaws.{sets-put}
use Rattle.cases_words.proofs.put.Goals as goal

pub returns : goal.returns
returns c = search sets-put
