-- `text_lines::dull_to` meets its contract: a law for each way.
use Rattle.text_lines.proofs.DullLaws.{dull-comment, dull-ordinary}
use Rattle.text_lines.proofs.dull_to.Goals as goal

pub returns-then-mode-eq-IN_COMMENT : goal.returns-then-mode-eq-IN_COMMENT
returns-then-mode-eq-IN_COMMENT c = search dull-comment

pub returns-else-fresh : goal.returns-else-fresh
returns-else-fresh c = search dull-ordinary
