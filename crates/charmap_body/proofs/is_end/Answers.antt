-- `charmap_body::is_end` meets its contract: END, a blank, and CHARMAP alone.
use Rattle.rules.specs.Text.{bytes}
use borrow.Author.Rules.{rules}
use Rattle.charmap_body.proofs.PlainLaws.{mark-to, gap-plain, end_short, end-gap, end-solid, end-not}
use Rattle.charmap_body.proofs.is_end.Goals as goal

pub returns-then-not-word_is : goal.returns-then-not-word_is
unfolding bytes
returns-then-not-word_is c = search end-not

pub returns-in_default : goal.returns-in_default
unfolding bytes
returns-in_default c = search end_short

pub only_word-requires : goal.only_word-requires
only_word-requires c = search (rules, mark-to, gap-plain)

pub returns-then-m-eq9 : goal.returns-then-m-eq9
unfolding bytes
returns-then-m-eq9 c = search end-gap

pub returns-else-m-eq9 : goal.returns-else-m-eq9
unfolding bytes
returns-else-m-eq9 c = search end-solid
