-- `pairs_report::feed` meets its contract. The loop's invariant: what was printed and what is to be printed is as it was. The measure is how many bytes are left.
use Prim.Native.Nat.{◌-◌}
use lib.ListN.{length}
use Rattle.rules.specs.Table.{meaning_in}
use Rattle.pairs_report.proofs.FeedLaws.{Feeding}
use Rattle.pairs_report.proofs.feed.Given as goal

abbrev pub invariant-loop-g : goal.invariant-loop-g
invariant-loop-g l = Feeding (meaning_in l.t) l.area l.piece l.initial.g l.initial.before l.initial.current l.initial.out l.g l.before l.current l.out

abbrev pub decreases-loop-g : goal.decreases-loop-g
decreases-loop-g l = length l.piece - l.g.at
