-- `table_layout::start_in` meets its contract: the starts stand behind the characters and the listing, five numbers for each item.
use mathlib.Core.Path.{◌∙◌}
use native.Mathlib.Omega.{arith}
use Rattle.table_layout.proofs.IndexLaws.{indexed-sizes, start-here}
use Rattle.table_layout.proofs.start_in.Goals as goal

pub overflow_mul-items : goal.overflow_mul-items
overflow_mul-items c = omega (arith, indexed-sizes c.requires.indexed)

pub overflow_add-chars : goal.overflow_add-chars
overflow_add-chars c = omega (arith, indexed-sizes c.requires.indexed)

pub start_of-requires : goal.start_of-requires
start_of-requires c = omega (arith, indexed-sizes c.requires.indexed, c.requires.b_bound)

pub returns : goal.returns
returns c = c.start_of.ensures ∙ start-here c.requires.indexed c.args.b c.requires.b_bound
