-- `table_items::lower_line` meets its contract: a law for each way.
use Rattle.text_tokens.proofs.RefusalLaws.{lower-first-none, lower-second-none, lower-first, lower-second}
use Rattle.table_items.proofs.lower_line.Goals as goal

pub returns-then-a-eq0 : goal.returns-then-a-eq0
returns-then-a-eq0 c = search lower-first-none

pub returns-then-b-eq0 : goal.returns-then-b-eq0
returns-then-b-eq0 c = search lower-second-none

pub returns-then-a-b : goal.returns-then-a-b
returns-then-a-b c = search lower-first

pub returns-else-a-b : goal.returns-else-a-b
returns-else-a-b c = search lower-second
