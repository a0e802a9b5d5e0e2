use mathlib.Core.Path.{◌≡◌}
use Prim.Native.Nat.{suc, ◌+◌, ◌-◌, ◌≤◌}
use native.Mathlib.Omega.{arith}
use Rattle.table_records.proofs.LineLaws.{filling-none, filling-slot, filling-room, filling-small, filling-more, filling-all}
use borrow.Author.Rules.{rules}
use Rattle.table_records.proofs.write_line.Goals as goal

pub loop-slot-init : goal.loop-slot-init
loop-slot-init c =
    let e : c.args.slots + c.args.levels - c.args.slots ≡ c.args.levels = omega arith in
    rw e (search filling-none)

pub write_level-next-requires : goal.write_level-next-requires
write_level-next-requires c =
    let e : suc (c.args.slots + c.args.levels - (c.loop-slot.slot + 1)) ≡ c.args.slots + c.args.levels - c.loop-slot.slot = omega arith in
    record { part_fits = search rules; sound = search rules; slot_in_bounds = (search filling-slot, search filling-room); base_le_at = (search rules, search filling-small) }

pub loop-slot-preserved : goal.loop-slot-preserved
loop-slot-preserved c =
    let e : suc (c.args.slots + c.args.levels - (c.loop-slot.slot + 1)) ≡ c.args.slots + c.args.levels - c.loop-slot.slot = omega arith in
    search filling-more

pub returns : goal.returns
returns c =
    let l : c.args.slots + c.args.levels - c.loop-slot.slot ≤ 0 = omega arith in
    search filling-all
