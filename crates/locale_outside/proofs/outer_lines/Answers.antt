-- `locale_outside::outer_lines` meets its contract: what the reading answers.
use Rattle.locale_outside.proofs.StretchLaws.{reading_begins}
use Rattle.locale_outside.proofs.outer_lines.Goals as goal

pub outer_stretches-requires : goal.outer_stretches-requires
outer_stretches-requires c = search reading_begins
