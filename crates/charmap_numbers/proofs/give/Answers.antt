-- `charmap_numbers::give` meets its contract: two stores, the second of the number that was found before the first.
use Rattle.charmap_numbers.proofs.SeekLaws.{with-stored}
use lib.ListN.{length-set}
use native.Mathlib.Omega.{arith}
use Rattle.charmap_numbers.proofs.give.Goals as goal

pub bounds-area-byte-2 : goal.bounds-area-byte-2
bounds-area-byte-2 c = simp length-set (omega arith)

pub returns : goal.returns
returns c = search with-stored
