-- `text_tokens::word_is` meets its contract. The invariant: the two words agree so far.
use Rattle.text_tokens.proofs.WordLaws.{Alike}
use Rattle.text_tokens.proofs.word_is.Given as goal

abbrev pub invariant-loop-b : goal.invariant-loop-b
invariant-loop-b l = Alike l.src.signs l.src.bytes.now l.w l.initial.q l.q l.b-index
