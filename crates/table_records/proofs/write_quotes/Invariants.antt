-- `table_records::write_quotes` meets its contract. The invariant: the ranks of the names from q on are still to be written. The measure is how many they are.
use Rattle.table_records.specs.Writing.{quote_size}
use Rattle.table_records.proofs.PartLaws.{Quoting}
use Rattle.table_records.proofs.write_quotes.Given as goal

abbrev pub invariant-loop-r : goal.invariant-loop-r
invariant-loop-r l = Quoting l.src.signs l.src.bytes.now l.work l.initial.q l.initial.area l.at l.area l.q l.next

abbrev pub decreases-loop-r : goal.decreases-loop-r
decreases-loop-r l = quote_size l.src.signs l.src.bytes.now l.q
