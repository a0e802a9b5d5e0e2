-- `text_lines::feed_from` meets its contract. The loop's invariant: no LF is passed.
use Rattle.text_lines.specs.Stretches.{NoFeed, Stretch}
use Rattle.text_lines.proofs.feed_from.Given as goal

abbrev pub invariant-loop-i : goal.invariant-loop-i
invariant-loop-i l = Stretch NoFeed l.src l.at l.i
