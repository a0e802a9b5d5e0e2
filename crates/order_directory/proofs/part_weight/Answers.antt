-- `order_directory::part_weight` meets its contract.
use native.Mathlib.Omega.{arith}
use Rattle.order_directory.proofs.PartLaws.{ends-inside}
use Rattle.order_directory.proofs.PageLaws.{part-ready, part-weight}
use borrow.Author.Rules.{rules}
use Rattle.order_directory.proofs.part_weight.Goals as goal

pub overflow_add-end : goal.overflow_add-end
overflow_add-end c = let h = ends-inside c.args.run.now c.args.p.start c.args.p.size c.requires.inside in omega arith

pub offset_bounds-run-start : goal.offset_bounds-run-start
offset_bounds-run-start c = let h = ends-inside c.args.run.now c.args.p.start c.args.p.size c.requires.inside in omega arith

pub slice_bounds-first_weight-end : goal.slice_bounds-first_weight-end
slice_bounds-first_weight-end c = search (rules, ends-inside)

pub first_weight-requires : goal.first_weight-requires
first_weight-requires c = search part-ready

pub returns : goal.returns
returns c = search part-weight
