use Rattle.text_specials.proofs.BlankLaws.{blanks-none, blanks-more, blanks-feed, blanks-byte}
use Rattle.text_specials.proofs.after_blanks.Goals as goal

pub loop-i-init : goal.loop-i-init
loop-i-init c = search blanks-none

pub loop-i-preserved : goal.loop-i-preserved
loop-i-preserved c = search blanks-more

pub returns-else-b-eq10 : goal.returns-else-b-eq10
returns-else-b-eq10 c = search blanks-byte

pub returns-then-b-eq10 : goal.returns-then-b-eq10
returns-then-b-eq10 c = search blanks-feed
