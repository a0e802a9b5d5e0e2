use native.Mathlib.Omega.{arith}
use Rattle.base_reading.proofs.read_full.Goals as goal

pub loop-done-preserved : goal.loop-done-preserved
loop-done-preserved c = omega arith
