-- `locale_opening::line_refusal` meets its contract: a law for each way.
use Rattle.locale_opening.proofs.OpenLaws.{with-text, with-foul}
use Rattle.locale_opening.proofs.line_refusal.Goals as goal

pub returns-then-text : goal.returns-then-text
returns-then-text c = search with-text

pub returns-else-text : goal.returns-else-text
returns-else-text c = search with-foul
