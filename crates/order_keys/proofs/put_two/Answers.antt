-- `order_keys::put_two` meets its contract: a number below 65536 has two bytes, its quotient and its remainder by 256.
use native.Mathlib.Omega.{arith}
use lib.ListN.{length-set}
use Rattle.order_keys.proofs.PutLaws.{two-stored}
use Rattle.order_keys.proofs.put_two.Goals as goal

pub bounds-room-at-2 : goal.bounds-room-at-2
bounds-room-at-2 c = simp length-set (omega arith)

pub shape_of-room : goal.shape_of-room
shape_of-room c = simp length-set

pub returns : goal.returns
returns c = search two-stored
