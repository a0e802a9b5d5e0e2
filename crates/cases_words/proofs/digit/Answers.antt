use Rattle.cases_words.proofs.PutLaws.{digit-below, digit-from}
use Rattle.cases_words.proofs.digit.Goals as goal

pub returns-then-n-lt10 : goal.returns-then-n-lt10
returns-then-n-lt10 c = search digit-below

pub returns-else-n-lt10 : goal.returns-else-n-lt10
returns-else-n-lt10 c = search digit-from
