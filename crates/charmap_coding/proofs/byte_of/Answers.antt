use Rattle.charmap_coding.proofs.AcceptLaws.{codes-count, ones-many, codes-few}
use Rattle.charmap_coding.proofs.byte_of.Goals as goal

pub slice_bounds-find_byte-end : goal.slice_bounds-find_byte-end
slice_bounds-find_byte-end c = search codes-count

pub find_byte-requires : goal.find_byte-requires
find_byte-requires c = (search ones-many, search codes-few)
