use Rattle.order_compare.proofs.CodeLaws.{coding-none, coding-more, codes-differ, codes-over}
use native.Mathlib.Omega.{arith}
use Rattle.order_compare.proofs.compare_codes.Goals as goal

pub loop-i-init : goal.loop-i-init
loop-i-init c = search coding-none

pub returns-in_default : goal.returns-in_default
returns-in_default c = codes-differ c.loop-i.invariant (omega arith) (omega arith) c.order_of.ensures c.in_default.not-Equal

pub loop-i-preserved : goal.loop-i-preserved
loop-i-preserved c = coding-more c.loop-i.invariant (omega arith) (omega arith) c.order_of.ensures c.in-Equal.is

pub returns : goal.returns
returns c = search codes-over
