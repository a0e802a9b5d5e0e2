use Rattle.order_entries.proofs.CompareLaws.{comparing-none, both_end, first_ends, second-ends, differ, agree-more, agree-fewer}
use native.Mathlib.Omega.{arith}
use Rattle.order_entries.proofs.compare_level.Goals as goal

pub loop-e-init : goal.loop-e-init
loop-e-init c = search comparing-none

pub returns-in-None-None : goal.returns-in-None-None
returns-in-None-None c = search both_end

pub returns-in-None-Some : goal.returns-in-None-Some
returns-in-None-Some c = search first_ends

pub returns-in-Some-None : goal.returns-in-Some-None
returns-in-Some-None c = search second-ends

pub returns-in_default : goal.returns-in_default
returns-in_default c = search differ

pub overflow_add-agreed : goal.overflow_add-agreed
overflow_add-agreed c = omega (arith, c.onward-w.ensures.stand.few)

pub loop-e-smaller : goal.loop-e-smaller
loop-e-smaller c = search agree-fewer

pub loop-e-preserved : goal.loop-e-preserved
loop-e-preserved c = search agree-more
