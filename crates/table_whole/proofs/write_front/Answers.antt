-- `table_whole::write_front` meets its contract.
use native.Mathlib.Omega.{arith}
use lib.ListN.{length-set}
use borrow.Author.Rules.{rules}
use Rattle.table_whole.proofs.FrontLaws.{front-written, front_same}
use Rattle.table_whole.proofs.write_front.Goals as goal

pub bounds-area-1 : goal.bounds-area-1
bounds-area-1 c = simp length-set (omega arith)

pub bounds-area-2 : goal.bounds-area-2
bounds-area-2 c = simp length-set (omega arith)

pub bounds-area-3 : goal.bounds-area-3
bounds-area-3 c = simp length-set (omega arith)

pub fill-requires : goal.fill-requires
fill-requires c = simp length-set (omega arith)

pub shape_of-area : goal.shape_of-area
shape_of-area c = search (rules, front_same)

pub returns : goal.returns
returns c = search front-written
