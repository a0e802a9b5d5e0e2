use Rattle.locale_skips.proofs.RunLaws.{blanks-end, blanks-stop, blanks-more}
use Rattle.locale_skips.proofs.skip_blanks.Goals as goal

pub returns-then-not-is_blank : goal.returns-then-not-is_blank
returns-then-not-is_blank c = search blanks-stop

pub loop-m-preserved : goal.loop-m-preserved
loop-m-preserved c = search blanks-more

pub returns : goal.returns
returns c = search blanks-end
