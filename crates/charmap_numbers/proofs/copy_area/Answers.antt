-- `charmap_numbers::copy_area` meets its contract, also where it writes the right last number once more (`copied-again`).
use Rattle.charmap_numbers.proofs.SeekLaws.{front-count, copied, copied-again}
use mathlib.Core.Path.{sym, ◌∙◌}
use Rattle.charmap_numbers.proofs.copy_area.Goals as goal

pub copy_from_slice-requires : goal.copy_from_slice-requires
copy_from_slice-requires c = front-count _ c.requires.1 ∙ sym c.requires.0

pub returns : goal.returns
returns c = search (copied, copied-again)
