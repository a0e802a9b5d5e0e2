-- `text_lines::feeds_in` meets its contract. The loop's invariant: the bytes passed hold no LF if none was counted.
use Rattle.text_lines.proofs.DullLaws.{Counted}
use Rattle.text_lines.proofs.feeds_in.Given as goal

abbrev pub invariant-loop-k : goal.invariant-loop-k
invariant-loop-k l = Counted l.src l.at l.n l.k
