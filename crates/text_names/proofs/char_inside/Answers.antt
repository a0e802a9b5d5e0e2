-- `text_names::char_inside` meets its contract: what six bytes tell of the name, or the long way.
use Rattle.text_names.proofs.ShapeLaws.{inside-other, inside-code}
use Rattle.text_names.proofs.char_inside.Goals as goal

pub returns-in-Other : goal.returns-in-Other
returns-in-Other c = inside-other c.args.src.signs c.args.src.bytes.now c.args.p c.requires.mode_value c.in-Other.ensures

pub returns-in-Code : goal.returns-in-Code
returns-in-Code c = inside-code c.args.src.signs c.args.src.bytes.now c.args.p c.requires.mode_value (record { 0 = c.in-Code.c }) c.in-Code.ensures
