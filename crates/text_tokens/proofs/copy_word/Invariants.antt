-- `text_tokens::copy_word` meets its contract. The invariant: the word so far stands in the area.
use Rattle.text_lines.specs.Stream.{marks_left}
use Rattle.text_tokens.specs.Left.{word_in}
use Rattle.text_tokens.proofs.CopyLaws.{Copying}
use Rattle.text_tokens.proofs.copy_word.Given as goal

abbrev pub invariant-loop-i : goal.invariant-loop-i
invariant-loop-i l = Copying l.src.signs l.src.bytes.now (word_in (marks_left l.src.signs l.src.bytes.now l.initial.q)) l.initial.area l.area l.q l.i
