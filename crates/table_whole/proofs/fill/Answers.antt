use Rattle.table_whole.proofs.FrontLaws.{filled}
use Rattle.table_whole.proofs.fill.Goals as goal

pub returns : goal.returns
returns c = filled c.args.area.now c.args.at c.args.n c.args.x c.requires (c.fill.ensures.after (λ y e. e))
