-- `charmap_header::is_opening` meets its contract: the first word is CHARMAP, and only blanks follow.
use Rattle.rules.specs.Text.{bytes}
use Rattle.charmap_header.proofs.WordLaws.{opening-word, opening-other}
use Rattle.charmap_header.proofs.is_opening.Goals as goal

pub returns-then-word_is : goal.returns-then-word_is
unfolding bytes
returns-then-word_is c = search opening-word

pub returns-else-word_is : goal.returns-else-word_is
unfolding bytes
returns-else-word_is c = search opening-other
