-- `charmap_body::only_word` meets its contract: the word, and nothing but blanks around it.
use Rattle.charmap_body.proofs.PlainLaws.{only-word, only-other}
use Rattle.charmap_body.proofs.only_word.Goals as goal

pub returns-then-word_is : goal.returns-then-word_is
returns-then-word_is c = search only-word

pub returns-else-word_is : goal.returns-else-word_is
returns-else-word_is c = search only-other
