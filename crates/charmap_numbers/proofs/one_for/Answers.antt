-- `charmap_numbers::one_for` meets its contract: by whether a byte has the code.
use Rattle.charmap_numbers.proofs.SeekLaws.{one-taken, one-first}
use Rattle.charmap_numbers.proofs.one_for.Goals as goal

pub returns-then-has_code : goal.returns-then-has_code
returns-then-has_code c = search one-taken

pub returns-else-has_code : goal.returns-else-has_code
returns-else-has_code c = search one-first
