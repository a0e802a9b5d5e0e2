-- `text_tokens::end_of_word` meets its contract. The invariant: the word goes on up to here. The measure is what is left of the source.
use Rattle.text_tokens.proofs.WordLaws.{InWord}
use Prim.Native.Nat.{◌-◌}
use lib.ListN.{length}
use Rattle.text_tokens.proofs.end_of_word.Given as goal

abbrev pub invariant-loop-r : goal.invariant-loop-r
invariant-loop-r l = InWord l.src.signs l.src.bytes.now l.initial.q l.q

abbrev pub decreases-loop-r : goal.decreases-loop-r
decreases-loop-r l = length l.src.bytes.now - l.q.at
