-- `text_specials::after_blanks` meets its contract. The invariant: only blanks are passed.
use Rattle.text_specials.proofs.BlankLaws.{InBlanks}
use Rattle.text_specials.proofs.after_blanks.Given as goal

abbrev pub invariant-loop-i : goal.invariant-loop-i
invariant-loop-i l = InBlanks l.src l.at l.i
