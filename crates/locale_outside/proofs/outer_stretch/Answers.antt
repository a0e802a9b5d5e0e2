-- `locale_outside::outer_stretch` meets its contract: what a line that is passed does to the reading.
use mathlib.Core.Path.{ap, ◌∙◌}
use Rattle.std.proofs.Common.{Ok}
use Rattle.locale_outside.proofs.StretchLaws.{reading-on}
use Rattle.locale_outside.proofs.outer_stretch.Goals as goal

pub returns-in-Ok-On : goal.returns-in-Ok-On
returns-in-Ok-On c = reading-on c.outer_turn.ensures (c.in-Ok-On.is ∙ ap Ok c.in-Ok-On.field-0-is)
