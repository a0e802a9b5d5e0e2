use native.Mathlib.Omega.{arith}
use Rattle.charmap_coding.proofs.DecodeLaws.{byte_inside, byte-code}
use Rattle.rules.proofs.PutLaws.{putting-none, putting-more, putting-all}
use Rattle.charmap_coding.proofs.write_codes.Goals as goal

pub loop-i-init : goal.loop-i-init
loop-i-init c = search putting-none

pub offset_bounds-area-b : goal.offset_bounds-area-b
offset_bounds-area-b c = omega (arith, c.type_inv.bytes c.loop-i.i)

pub bounds-area-b : goal.bounds-area-b
bounds-area-b c = search byte_inside

pub loop-i-preserved : goal.loop-i-preserved
loop-i-preserved c = search (putting-more, byte-code)

pub returns : goal.returns
returns c = search putting-all
