use native.Mathlib.Omega.{arith}
use Rattle.charmap_coding.proofs.DecodeLaws.{byte_inside, mapped-none, mapped-no, mapped-more, mapped-all}
use Rattle.charmap_coding.proofs.all_mapped.Goals as goal

pub loop-b-init : goal.loop-b-init
loop-b-init c = search mapped-none

pub offset_bounds-area-b : goal.offset_bounds-area-b
offset_bounds-area-b c = omega (arith, c.type_inv.bytes c.loop-b.b-index)

pub bounds-area-b : goal.bounds-area-b
bounds-area-b c = search byte_inside

pub returns-then-area-b-eq1114112 : goal.returns-then-area-b-eq1114112
returns-then-area-b-eq1114112 c = search mapped-no

pub loop-b-preserved : goal.loop-b-preserved
loop-b-preserved c = search mapped-more

pub returns : goal.returns
returns c = search mapped-all
