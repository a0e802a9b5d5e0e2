use Rattle.locale_skips.proofs.LineWordLaws.{first_same}
use Rattle.locale_skips.proofs.first_word_is.Goals as goal

pub returns : goal.returns
returns c = search first_same
