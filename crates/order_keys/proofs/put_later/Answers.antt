use Rattle.order_keys.proofs.ElementLaws.{later-none, later-inside, later-fits, later_more, later-all}
use Rattle.order_keys.proofs.put_later.Goals as goal

pub loop-i-init : goal.loop-i-init
loop-i-init c = search later-none

pub weight-rank-requires : goal.weight-rank-requires
weight-rank-requires c = search later-inside

pub put_entry-next-requires : goal.put_entry-next-requires
put_entry-next-requires c = search later-fits

pub loop-i-preserved : goal.loop-i-preserved
loop-i-preserved c = search later_more

pub returns : goal.returns
returns c = search later-all
