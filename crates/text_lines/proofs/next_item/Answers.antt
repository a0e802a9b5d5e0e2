-- `text_lines::next_item` meets its contract: a law for each way.
use Prim.Native.Nat.{◌<◌}
use native.Mathlib.Omega.{arith}
use Rattle.text_lines.proofs.LineLaws.{ends-source, ends-feed, item-hidden, item-opens, item-mark}
use Rattle.text_lines.proofs.next_item.Goals as goal

pub returns-then-p-src : goal.returns-then-p-src
returns-then-p-src c = search ends-source

pub returns-then-b-eq10 : goal.returns-then-b-eq10
returns-then-b-eq10 c = search ends-feed

pub returns-then-p-eq-IN_COMMENT : goal.returns-then-p-eq-IN_COMMENT
returns-then-p-eq-IN_COMMENT c = search item-hidden

pub returns-then-opens : goal.returns-then-opens
returns-then-opens c = search item-opens

pub returns : goal.returns
returns c = search item-mark
