use Rattle.text_tokens.proofs.PlainLaws.{passing-more, passing-stop, passing-end}
use Rattle.text_tokens.proofs.plain_to.Goals as goal

pub returns-then-not-is_plain : goal.returns-then-not-is_plain
returns-then-not-is_plain c = search passing-stop

pub loop-i-preserved : goal.loop-i-preserved
loop-i-preserved c = search passing-more

pub returns : goal.returns
returns c = search passing-end
