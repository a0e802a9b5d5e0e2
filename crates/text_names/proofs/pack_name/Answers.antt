-- `text_names::pack_name` meets its contract: before the first byte the numbers are those of no bytes.
use Rattle.text_names.proofs.PackLaws.{begun-none, packed-whole}
use Rattle.text_names.proofs.pack_name.Goals as goal

pub pack_from-requires-clause-begun : goal.pack_from-requires-clause-begun
pack_from-requires-clause-begun c = search begun-none

pub returns-else-is_inside : goal.returns-else-is_inside
returns-else-is_inside c = search packed-whole
