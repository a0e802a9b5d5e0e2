-- `table_weights::measure_quotes` meets its contract. The invariant: the names passed are counted, and tested. The measure is how many are left.
use lib.ListN.{length}
use Rattle.text_lines.specs.Stream.{marks_left}
use Rattle.text_tokens.specs.Left.{names_in}
use Rattle.table_weights.proofs.QuoteLaws.{Counting}
use Rattle.table_weights.proofs.measure_quotes.Given as goal

abbrev pub invariant-loop-r : goal.invariant-loop-r
invariant-loop-r l = Counting l.src.signs l.src.bytes.now l.work l.initial.q l.q l.weights l.ranked

abbrev pub decreases-loop-r : goal.decreases-loop-r
decreases-loop-r l = length (names_in (marks_left l.src.signs l.src.bytes.now l.q))
