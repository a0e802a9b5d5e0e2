-- `work_toggles::is_on` meets its contract: the one that is found tells.
use Rattle.work_toggles.proofs.FindLaws.{place-room, on-there, off-none}
use Prim.Native.Nat.{◌+◌, ◌<◌}
use native.Mathlib.Omega.{arith}
use lib.ListN.{length}
use Rattle.work_toggles.proofs.is_on.Goals as goal

pub overflow_add-base : goal.overflow_add-base
overflow_add-base c =
    let a = c.args in
    let h : a.base + c.in-Some.i < length a.work.now = search place-room in
    omega arith

pub offset_bounds-work-base : goal.offset_bounds-work-base
offset_bounds-work-base c =
    let a = c.args in
    let h : a.base + c.in-Some.i < length a.work.now = search place-room in
    omega arith

pub bounds-work-base : goal.bounds-work-base
bounds-work-base c = search place-room

pub returns-in-Some : goal.returns-in-Some
returns-in-Some c = search on-there

pub returns-in-None : goal.returns-in-None
returns-in-None c = search off-none
