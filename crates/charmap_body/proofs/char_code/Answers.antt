-- `charmap_body::char_code` meets its contract: a code of the name's shape is tested.
use Rattle.charmap_body.proofs.OutcomeLaws.{char-other, char-yes, char-no}
use Rattle.charmap_body.proofs.char_code.Goals as goal

pub returns-in_err-c : goal.returns-in_err-c
returns-in_err-c c = rw c.from_residual.ensures (char-other _ c.name_char.ensures c.in_err-c.was)

pub returns-then-is_character : goal.returns-then-is_character
returns-then-is_character c = char-yes _ c.name_char.ensures c.in_ok-c.was c.is_character.ensures c.if-is_character.true

pub returns-else-is_character : goal.returns-else-is_character
returns-else-is_character c = char-no _ c.name_char.ensures c.in_ok-c.was c.is_character.ensures c.if-is_character.false
