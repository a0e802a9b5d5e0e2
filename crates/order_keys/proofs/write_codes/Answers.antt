use Rattle.order_keys.proofs.CodesLaws.{codes-none, code_fits, codes-more, codes_all}
use Rattle.order_keys.proofs.write_codes.Goals as goal

pub loop-c-init : goal.loop-c-init
loop-c-init c = search codes-none

pub put_three-next-requires : goal.put_three-next-requires
put_three-next-requires c = search code_fits

pub loop-c-preserved : goal.loop-c-preserved
loop-c-preserved c = search codes-more

pub returns : goal.returns
returns c = search codes_all
