use Rattle.order_directory.proofs.PartLaws.{passing-no, passing-more, passing-all}
use Rattle.order_directory.proofs.all_inside.Goals as goal

pub returns-then-not-inside : goal.returns-then-not-inside
returns-then-not-inside c = search passing-no

pub loop-i-preserved : goal.loop-i-preserved
loop-i-preserved c = search passing-more

pub returns : goal.returns
returns c = search passing-all
