-- `charmap_numbers::has_code` meets its contract.
use Rattle.charmap_numbers.proofs.SeekLaws.{codes-count, code-contained}
use Rattle.charmap_numbers.proofs.has_code.Goals as goal

pub slice_bounds-contains-end : goal.slice_bounds-contains-end
slice_bounds-contains-end c = search codes-count

pub returns : goal.returns
returns c = search code-contained
