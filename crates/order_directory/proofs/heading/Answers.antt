-- `order_directory::heading` meets its contract: the weights rise, so that those not above w stand in front of those that are.
use Rattle.std.proofs.lemmas.List.Sorted.{IsPartitionPoint-from_clause}
use native.Mathlib.Omega.{arith}
use borrow.Author.Rules.{rules}
use lib.Dec.{leb}
use Rattle.order_directory.proofs.HeadingLaws.{weights-parted, heading-parted}
use Rattle.order_directory.proofs.heading.Goals as goal

pub returns : goal.returns
returns c =
    let parted = heading-parted c.args.w c.requires
    (IsPartitionPoint-from_clause (λ y. leb y c.args.w) _ _ c.partition_point.ensures.partitioned (weights-parted c.args.w c.requires) (λ x b f' k. search rules))
    c.partition_point.ensures.bound in
    omega (arith, parted)
