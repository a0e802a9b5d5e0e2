-- `charmap_entry::feeds_between` meets its contract: the library's count of the bytes between the two places.
use Rattle.std.specs.Prelude.{◌≡◌}
use mathlib.Core.Path.{◌∙◌}
use native.Mathlib.Omega.{arith}
use lib.ListN.{take, drop}
use lib.Dec.{eqb}
use Prim.Native.Nat.{◌-◌}
use Rattle.std.specs.List.{count_by}
use Rattle.std.proofs.lemmas.Grind.{common_steps}
use Rattle.charmap_entry.proofs.FeedLaws.{feeds-between}
use Rattle.charmap_entry.proofs.feeds_between.Goals as goal

pub returns : goal.returns
returns c =
    let e : c.count.result ≡ count_by (λ b. eqb b 10) (take (c.args.end - c.args.from) (drop c.args.from c.args.src.now)) = grind (arith, common_steps) in
    e ∙ feeds-between c.args.src.now c.args.from c.args.end
