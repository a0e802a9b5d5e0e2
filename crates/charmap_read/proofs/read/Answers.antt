-- `charmap_read::read` meets its contract: refusal 1, and read_by for the rest.
use Rattle.charmap_read.proofs.ReadLaws.{too_long}
use Rattle.charmap_read.proofs.read.Goals as goal

pub returns-then-src-gt-LONGEST_SOURCE : goal.returns-then-src-gt-LONGEST_SOURCE
returns-then-src-gt-LONGEST_SOURCE c = search too_long
