-- `locale_skips::line_after` meets its contract: the line's LFs are added to the number, or no line is left.
use Rattle.locale_skips.proofs.LineRuns.{number_fits}
use Rattle.locale_skips.proofs.line_after.Goals as goal

pub overflow_add-result : goal.overflow_add-result
overflow_add-result c = record { fits = search number_fits }
