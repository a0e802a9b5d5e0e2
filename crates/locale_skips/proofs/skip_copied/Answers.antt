-- `locale_skips::skip_copied` meets its contract: what was copied is the name.
use Rattle.locale_skips.proofs.NameLaws.{name-fits, name-count, name-some, name-is}
use Rattle.locale_skips.proofs.skip_copied.Goals as goal

pub slice_bounds-skip_named-end : goal.slice_bounds-skip_named-end
slice_bounds-skip_named-end c = search name-fits

pub slice_bounds-skip_named-end-2 : goal.slice_bounds-skip_named-end-2
slice_bounds-skip_named-end-2 c = search name-count

pub skip_named-requires : goal.skip_named-requires
skip_named-requires c = search name-some

pub returns : goal.returns
returns c = search name-is
