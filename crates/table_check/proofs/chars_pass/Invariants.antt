-- `table_check::chars_pass` meets its contract. The loop's invariant: all is good exactly if the items before the rest passed.
use Rattle.std.specs.Slice.Iter.{chunks_exact_rest, chunks_exact_size}
use Rattle.table_check.proofs.CharLaws.{Chars}
use Rattle.table_check.proofs.chars_pass.Given as goal

abbrev pub invariant-loop-four : goal.invariant-loop-four
invariant-loop-four l = Chars l.items l.numbers (chunks_exact_rest l.four-iterator) (chunks_exact_size l.four-iterator) l.good
