-- `charmap_numbers::any_given` meets its contract: whether any of the bytes' numbers is a code.
use Rattle.std.proofs.Common.{arith, ℕ, List, take, drop, rules, tests}
use Rattle.std.proofs.lemmas.Iterator.{YieldsList-from_slice}
use Rattle.std.proofs.lemmas.Iterator.Search.{any_from_yields_List}
use Rattle.charmap_numbers.specs.Giving.{is_taken}
use Rattle.charmap_numbers.proofs.SeekLaws.{any-taken, as-many}
use Rattle.charmap_numbers.proofs.any_given.Goals as goal

pub returns : goal.returns
returns c =
    let xs : List ℕ = take c.args.n (drop c.args.byte c.args.area.now) in
    any-taken _ _ _ (any_from_yields_List is_taken _ _ _ c.any.ensures.ran (YieldsList-from_slice xs (as-many (drop c.args.byte c.args.area.now) c.iter.ensures.rest (omega arith))) (λ x b q k. search (rules, tests)))
