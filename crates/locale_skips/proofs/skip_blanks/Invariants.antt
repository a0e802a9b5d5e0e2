-- `locale_skips::skip_blanks` meets its contract. The invariant: only blanks are passed. The measure is what is left of the source.
use Rattle.locale_skips.proofs.RunLaws.{InBlanks}
use Prim.Native.Nat.{◌-◌}
use lib.ListN.{length}
use Rattle.locale_skips.proofs.skip_blanks.Given as goal

abbrev pub invariant-loop-m : goal.invariant-loop-m
invariant-loop-m l = InBlanks l.src.signs l.src.bytes.now l.initial.q l.q

abbrev pub decreases-loop-m : goal.decreases-loop-m
decreases-loop-m l = length l.src.bytes.now - l.q.at
