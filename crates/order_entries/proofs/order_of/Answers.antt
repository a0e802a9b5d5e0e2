-- `order_entries::order_of` meets its contract: the counts decide, and where they are the same the ranks.
use mathlib.Core.Path.{ap, ◌∙◌}
use Rattle.base_units.specs.Numbers.{sign_of}
use Rattle.order_entries.proofs.CompareLaws.{entry-order}
use Rattle.order_entries.proofs.order_of.Goals as goal

pub returns : goal.returns
returns c = ap sign_of c.cmp.ensures ∙ entry-order c.args.x c.args.y
