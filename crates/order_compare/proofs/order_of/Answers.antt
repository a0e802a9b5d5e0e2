-- `order_compare::order_of` meets its contract: the codes decide.
use mathlib.Core.Path.{ap, ◌∙◌}
use Rattle.base_units.specs.Numbers.{sign_of}
use Rattle.order_entries.proofs.CompareLaws.{sign_nat}
use Rattle.order_compare.proofs.order_of.Goals as goal

pub returns : goal.returns
returns c = ap sign_of c.cmp.ensures ∙ sign_nat c.args.x.0 c.args.y.0
