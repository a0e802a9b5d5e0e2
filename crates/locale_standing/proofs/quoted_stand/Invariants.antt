-- `locale_standing::quoted_stand` meets its contract. The invariant: all names passed stand. The measure is how many are left.
use Rattle.locale_standing.proofs.StandLaws.{Standing}
use lib.ListN.{length}
use Rattle.text_lines.specs.Stream.{marks_left}
use Rattle.text_tokens.specs.Left.{names_in}
use Rattle.locale_standing.proofs.quoted_stand.Given as goal

abbrev pub invariant-loop-r : goal.invariant-loop-r
invariant-loop-r l = Standing l.src.signs l.src.bytes.now l.work l.initial.q l.q

abbrev pub decreases-loop-r : goal.decreases-loop-r
decreases-loop-r l = length (names_in (marks_left l.src.signs l.src.bytes.now l.q))
