-- `locale_elements::is_char_name` meets its contract: shaped as a character, with a code that is one.
use Rattle.locale_elements.proofs.CharacterLaws.{char_is, char-not}
use Rattle.locale_elements.proofs.is_char_name.Goals as goal

pub returns-in-Some : goal.returns-in-Some
returns-in-Some c = search char_is

pub returns-in-None : goal.returns-in-None
returns-in-None c = search char-not
