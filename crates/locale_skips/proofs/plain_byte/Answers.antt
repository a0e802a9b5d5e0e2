use Rattle.locale_skips.proofs.RunLaws.{escapes-byte, escapes-more, escapes-end}
use Rattle.locale_skips.proofs.plain_byte.Goals as goal

pub returns-then-m-lt256 : goal.returns-then-m-lt256
returns-then-m-lt256 c = search escapes-byte

pub loop-m-preserved : goal.loop-m-preserved
loop-m-preserved c = search escapes-more

pub returns : goal.returns
returns c = search escapes-end
