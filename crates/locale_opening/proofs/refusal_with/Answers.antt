-- `locale_opening::refusal_with` meets its contract: a law for each way.
use Rattle.locale_opening.proofs.OpenLaws.{with-text, with-byte}
use Rattle.locale_opening.proofs.refusal_with.Goals as goal

pub returns-then-text : goal.returns-then-text
returns-then-text c = search with-text

pub returns-else-text : goal.returns-else-text
returns-else-text c = search with-byte
