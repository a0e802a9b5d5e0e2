-- `order_directory::part_at` meets its contract: the two numbers of a part stand one behind the other.
use Rattle.order_directory.proofs.PartLaws.{part-inside, part-is}
use native.Mathlib.Omega.{arith}
use borrow.Author.Rules.{rules}
use Rattle.order_directory.proofs.part_at.Goals as goal

pub overflow_mul-start : goal.overflow_mul-start
overflow_mul-start c = let h = part-inside c.args.parts.now c.args.i c.requires in omega arith

pub offset_bounds-parts-i : goal.offset_bounds-parts-i
offset_bounds-parts-i c = let h = part-inside c.args.parts.now c.args.i c.requires in omega arith

pub bounds-parts-i : goal.bounds-parts-i
bounds-parts-i c = let h = part-inside c.args.parts.now c.args.i c.requires in omega arith

pub overflow_mul-size : goal.overflow_mul-size
overflow_mul-size c = let h = part-inside c.args.parts.now c.args.i c.requires in omega arith

pub overflow_add-size : goal.overflow_add-size
overflow_add-size c = let h = part-inside c.args.parts.now c.args.i c.requires in omega arith

pub offset_bounds-parts-i-2 : goal.offset_bounds-parts-i-2
offset_bounds-parts-i-2 c = search (rules, part-inside)

pub bounds-parts-i-2 : goal.bounds-parts-i-2
bounds-parts-i-2 c = search (rules, part-inside)

pub returns : goal.returns
returns c = search part-is
