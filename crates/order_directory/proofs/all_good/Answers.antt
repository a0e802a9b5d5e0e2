use Rattle.order_directory.proofs.PartLaws.{passing-no, passing-more, passing-all, each-inside}
use Rattle.order_directory.proofs.all_good.Goals as goal

pub good-requires : goal.good-requires
good-requires c = search each-inside

pub returns-then-not-good : goal.returns-then-not-good
returns-then-not-good c = search passing-no

pub loop-i-preserved : goal.loop-i-preserved
loop-i-preserved c = search passing-more

pub returns : goal.returns
returns c = search passing-all
