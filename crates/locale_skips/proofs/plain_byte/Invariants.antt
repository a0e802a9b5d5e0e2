-- `locale_skips::plain_byte` meets its contract. The invariant: only escape pairs are passed. The measure is what is left of the source.
use Rattle.locale_skips.proofs.RunLaws.{Escapes}
use Prim.Native.Nat.{◌-◌}
use lib.ListN.{length}
use Rattle.locale_skips.proofs.plain_byte.Given as goal

abbrev pub invariant-loop-m : goal.invariant-loop-m
invariant-loop-m l = Escapes l.src.signs l.src.bytes.now l.initial.q l.q

abbrev pub decreases-loop-m : goal.decreases-loop-m
decreases-loop-m l = length l.src.bytes.now - l.q.at
