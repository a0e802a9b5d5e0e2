-- `order_directory::good` meets its contract.
use Rattle.order_directory.proofs.PartLaws.{ends-inside, slice-good}
use native.Mathlib.Omega.{arith}
use borrow.Author.Rules.{rules}
use Rattle.order_directory.proofs.good.Goals as goal

pub overflow_add-end : goal.overflow_add-end
overflow_add-end c = let h = ends-inside c.args.run.now c.args.p.start c.args.p.size c.requires in omega arith

pub offset_bounds-run-start : goal.offset_bounds-run-start
offset_bounds-run-start c = let h = ends-inside c.args.run.now c.args.p.start c.args.p.size c.requires in omega arith

pub slice_bounds-good_string-end : goal.slice_bounds-good_string-end
slice_bounds-good_string-end c = search (rules, ends-inside)

pub returns : goal.returns
returns c = search slice-good
