-- `zeharmeku::tell` meets its contract: the front of the array has the numbers, the rest stays.
use Rattle.zeharmeku.proofs.ArrayLaws.{front-alike, told-all}
use Rattle.zeharmeku.proofs.tell.Goals as goal

pub copy_from_slice-requires : goal.copy_from_slice-requires
copy_from_slice-requires c = search front-alike

pub returns : goal.returns
returns c = search told-all
