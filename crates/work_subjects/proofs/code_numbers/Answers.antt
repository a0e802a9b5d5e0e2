-- `work_subjects::code_numbers` meets its contract: the number of a character, or none.
use Rattle.work_subjects.proofs.NumberLaws.{eight-long, numbers-code, numbers-strange}
use native.Mathlib.Omega.{arith}
use Rattle.work_subjects.proofs.code_numbers.Goals as goal
use Rattle.work_subjects.proofs.code_numbers.Goals.{then-plain, else-plain}

pub bounds-key-0 : goal.bounds-key-0
bounds-key-0 c = let e = eight-long c.requires in omega (arith, e)

pub returns : goal.returns
returns c = elim c.if-plain.branch [ then-plain w ↦ rw w.key-is (search numbers-code) | else-plain w ↦ rw w.key-is (search numbers-strange) ]
