-- `locale_elements::all_characters` meets its contract. The invariant: the names that are passed are those of characters. The measure is how many names are left.
use Rattle.locale_elements.proofs.CharacterLaws.{Passed}
use Rattle.text_tokens.specs.Left.{names_in}
use Rattle.text_lines.specs.Stream.{marks_left}
use lib.ListN.{length}
use Rattle.locale_elements.proofs.all_characters.Given as goal

abbrev pub invariant-loop-i : goal.invariant-loop-i
invariant-loop-i l = Passed l.src.signs l.src.bytes.now l.initial.q l.q

abbrev pub decreases-loop-i : goal.decreases-loop-i
decreases-loop-i l = length (names_in (marks_left l.src.signs l.src.bytes.now l.q))
