use native.Mathlib.Omega.{arith}
use Rattle.charmap_numbers.proofs.SeekLaws.{ranging-start, ranging-more, ranging-end}
use Rattle.charmap_numbers.proofs.give_range.Goals as goal

pub loop-i-init : goal.loop-i-init
loop-i-init c = search ranging-start

pub loop-i-preserved : goal.loop-i-preserved
loop-i-preserved c = ranging-more c.loop-i.invariant (omega arith) (omega arith) c.give.ensures

pub returns : goal.returns
returns c = search ranging-end
