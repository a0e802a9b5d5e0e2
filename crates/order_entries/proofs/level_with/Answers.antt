-- `order_entries::level_with` meets its contract: one law for each return.
use native.Mathlib.Omega.{arith}
use Rattle.std.proofs.lemmas.Bool.Decides.{nat_tests}
use Rattle.order_entries.specs.Walk.{level_with}
use Rattle.order_entries.proofs.level_with.Goals as goal

pub returns-then-n-eq0 : goal.returns-then-n-eq0
unfolding level_with
returns-then-n-eq0 c = grind (arith, nat_tests)

pub returns-else-n-eq0 : goal.returns-else-n-eq0
unfolding level_with
returns-else-n-eq0 c = grind (arith, nat_tests)
