-- `locale_levels::judged` meets its contract.
use mathlib.Core.Path.{refl, ap, ◌∙◌}
use native.Mathlib.Omega.{arith}
use Rattle.base_units.specs.Numbers.{number_or_none}
use Rattle.base_units.proofs.NumberLaws.{number_of-some}
use Rattle.locale_levels.proofs.CountLaws.{judged-lowest}
use Rattle.locale_levels.proofs.judged.Goals as goal

pub returns-in-None : goal.returns-in-None
returns-in-None c = (search judged-lowest ∙ ap number_or_none c.in-None.is, refl)

pub returns-in-Some : goal.returns-in-Some
returns-in-Some c = (search judged-lowest ∙ ap number_or_none c.in-Some.is, let a = number_of-some c.in-Some.lowest in omega (arith, a))
