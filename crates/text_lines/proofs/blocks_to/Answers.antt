use Rattle.text_lines.proofs.DullLaws.{blocks_more}
use native.Mathlib.Omega.{arith}
use Rattle.text_lines.proofs.blocks_to.Goals as goal

pub loop-i-preserved : goal.loop-i-preserved
loop-i-preserved c = blocks_more c.loop-i.invariant c.feeds_in.ensures (omega arith)
