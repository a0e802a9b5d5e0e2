use Rattle.order_directory.proofs.HeadingLaws.{heading-fits, listing_none, listing-more, listing-all}
use Rattle.order_directory.proofs.write.Goals as goal

pub loop-i-init : goal.loop-i-init
loop-i-init c = search listing_none

pub overflow_cast-list : goal.overflow_cast-list
overflow_cast-list c = search heading-fits

pub loop-i-preserved : goal.loop-i-preserved
loop-i-preserved c = search listing-more

pub returns : goal.returns
returns c = search listing-all
