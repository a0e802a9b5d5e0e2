-- `table_check::listing_passes` meets its contract. The loop's invariant: the places before k passed, so that those from k on decide.
use Rattle.table_check.proofs.WalkLaws.{Walking}
use Rattle.table_check.proofs.listing_passes.Given as goal

abbrev pub invariant-loop-k : goal.invariant-loop-k
invariant-loop-k l = Walking l.t l.items l.chars l.k l.last l.told
