-- `locale_outside::capitals` meets its contract: byte by byte.
use Rattle.locale_outside.proofs.CategoryLaws.{capitals-more, capitals-not, capitals-end}
use Rattle.locale_outside.proofs.capitals.Goals as goal

pub returns-then-not-is_capital : goal.returns-then-not-is_capital
returns-then-not-is_capital c = search capitals-not

pub loop-b-preserved : goal.loop-b-preserved
loop-b-preserved c = search capitals-more

pub returns : goal.returns
returns c = search capitals-end
