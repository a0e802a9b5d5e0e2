-- `work_subjects::chars_numbers` meets its contract. The invariant: the characters passed make the numbers so far. The measure is how many are left.
use lib.ListN.{length}
use Rattle.work_subjects.specs.Keys.{chars_left}
use Rattle.work_subjects.proofs.NumberLaws.{Numbering}
use Rattle.work_subjects.proofs.chars_numbers.Given as goal

abbrev pub invariant-loop-c : goal.invariant-loop-c
invariant-loop-c l = Numbering l.src.signs l.src.bytes.now l.initial.q l.q l.key l.n l.h

abbrev pub decreases-loop-c : goal.decreases-loop-c
decreases-loop-c l = length (chars_left l.src.signs l.src.bytes.now l.q)
