-- `text_tokens::skip_all` meets its contract. The invariant: only blanks are passed. The measure is what is left of the source.
use Rattle.text_tokens.proofs.GapLaws.{InBlanks}
use Prim.Native.Nat.{◌-◌}
use lib.ListN.{length}
use Rattle.text_tokens.proofs.skip_all.Given as goal

abbrev pub invariant-loop-r : goal.invariant-loop-r
invariant-loop-r l = InBlanks l.src.signs l.src.bytes.now l.initial.q l.q

abbrev pub decreases-loop-r : goal.decreases-loop-r
decreases-loop-r l = length l.src.bytes.now - l.q.at
