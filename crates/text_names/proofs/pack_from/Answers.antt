use Rattle.text_names.proofs.PackLaws.{packing-more, packing-close}
use Rattle.text_names.proofs.pack_from.Goals as goal

pub loop-b-preserved : goal.loop-b-preserved
loop-b-preserved c = search packing-more

pub returns : goal.returns
returns c = search packing-close
