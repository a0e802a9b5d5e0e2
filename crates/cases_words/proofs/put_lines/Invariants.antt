-- `cases_words::put_lines` meets its contract. The loop's invariant: the lines of 0 to i - 1 are written.
use Rattle.std.proofs.Common.{◌≡◌}
use Rattle.std.proofs.lemmas.List.Edits.{sets}
use Rattle.cases_words.specs.Lines.{order_lines}
use Rattle.cases_words.proofs.put_lines.Given as goal

abbrev pub invariant-loop-i : goal.invariant-loop-i
invariant-loop-i l = l.src ≡ sets l.initial.src l.from (order_lines l.i)
