-- `order_keys::put_three` meets its contract: a number below 16777216 has three bytes.
use native.Mathlib.Omega.{arith}
use lib.ListN.{length-set}
use Rattle.order_keys.proofs.PutLaws.{three-stored}
use Rattle.order_keys.proofs.put_three.Goals as goal

pub bounds-room-at-2 : goal.bounds-room-at-2
bounds-room-at-2 c = simp length-set (omega arith)

pub bounds-room-at-3 : goal.bounds-room-at-3
bounds-room-at-3 c = simp length-set (omega arith)

pub shape_of-room : goal.shape_of-room
shape_of-room c = simp length-set

pub returns : goal.returns
returns c = search three-stored
