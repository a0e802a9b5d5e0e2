-- `work_toggles::toggle_refusal` meets its contract, way by way.
use mathlib.Core.Path.{◌≡◌, sym, ◌∙◌}
use mathlib.Core.Bool.{true, false}
use Prim.Native.Nat.{◌≤◌, ◌<◌}
use native.Mathlib.Omega.{arith}
use Rattle.work_toggles.proofs.RefusalLaws.{refusal-known, refusal-new, refusal-many, refusal-long, refusal-foul}
use Rattle.work_toggles.proofs.toggle_refusal.Goals as goal
use Rattle.work_toggles.proofs.toggle_refusal.Goals.{then-room, else-room}

pub returns-then-not-s : goal.returns-then-not-s
returns-then-not-s c = search refusal-foul

pub returns-then-not-s-2 : goal.returns-then-not-s-2
returns-then-not-s-2 c = search refusal-long

pub returns-then-knows : goal.returns-then-knows
returns-then-knows c = elim c.if-room.branch [
  | then-room w ↦ let few : c.args.n < 16 = omega (arith, w.if-room.true) in search refusal-new
  | else-room w ↦ let known : w.knows.result ≡ true = sym w.value-is ∙ c.if-knows.true in search refusal-known
]

pub returns-else-knows : goal.returns-else-knows
returns-else-knows c = elim c.if-room.branch [
  | then-room w ↦ absurd (omega (arith, w.if-room.true))
  | else-room w ↦
      let new : w.knows.result ≡ false = sym w.value-is ∙ c.if-knows.false in
      let many : 16 ≤ c.args.n = omega (arith, w.if-room.false) in
      search refusal-many
]
