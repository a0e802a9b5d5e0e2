-- `text_lines::ordinary_to` meets its contract. The loop's invariant: each byte passed is ordinary.
use Rattle.text_lines.specs.Stretches.{Ordinary, Stretch}
use Rattle.text_lines.proofs.ordinary_to.Given as goal

abbrev pub invariant-loop-i : goal.invariant-loop-i
invariant-loop-i l = Stretch (Ordinary l.escape) l.src l.at l.i
