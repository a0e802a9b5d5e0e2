use Rattle.locale_skips.proofs.LineWordLaws.{pair-first, pair-second, pair_then}
use Rattle.locale_skips.proofs.words_are.Goals as goal

pub returns-in_default : goal.returns-in_default
returns-in_default c = search pair-first

pub returns-in_default-run_is : goal.returns-in_default-run_is
returns-in_default-run_is c = search pair-second

pub returns : goal.returns
returns c = search pair_then
