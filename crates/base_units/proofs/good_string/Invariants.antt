-- `base_units::good_string` meets its contract. The loop's invariant: the numbers before the index are characters exactly if none was counted.
use Prim.Native.Nat.{◌-◌}
use lib.ListN.{length}
use Rattle.base_units.proofs.CharLaws.{Sifted}
use Rattle.base_units.proofs.good_string.Given as goal

abbrev pub invariant-loop-n : goal.invariant-loop-n
invariant-loop-n l = Sifted l.s l.n-index l.bad
