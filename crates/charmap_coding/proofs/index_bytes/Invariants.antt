-- `charmap_coding::index_bytes` meets its contract. The loop's invariant: the table has what the search from i on finds.
use Rattle.charmap_coding.proofs.ByteLaws.{Indexing}
use Rattle.charmap_coding.proofs.index_bytes.Given as goal

abbrev pub invariant-loop-i : goal.invariant-loop-i
invariant-loop-i l = Indexing l.codes l.ones l.initial.index l.index l.i
