-- `charmap_body::before_codes` meets its contract: the bytes come before the names.
use Rattle.charmap_body.proofs.OutcomeLaws.{before_text, before-bad}
use Rattle.charmap_body.proofs.before_codes.Goals as goal

pub returns-then-text : goal.returns-then-text
returns-then-text c = search before_text

pub returns-else-text : goal.returns-else-text
returns-else-text c = search before-bad
