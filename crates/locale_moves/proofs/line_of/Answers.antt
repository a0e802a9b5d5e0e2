-- `locale_moves::line_of` meets its contract: a law for each answer.
use mathlib.Core.Path.{◌≡◌}
use native.Mathlib.Omega.{arith}
use borrow.Author.Rules.{rules}
use Rattle.locale_moves.proofs.NamedLaws.{found-row, line-none, line-unlisted, line_at}
use Rattle.locale_moves.proofs.line_of.Goals as goal

pub told-requires : goal.told-requires
told-requires c = (search rules, search found-row)

pub returns-in-Some : goal.returns-in-Some
returns-in-Some c = let some : c.told.result ≡ 0 → ⊥ = λ z. omega arith in search line_at

pub returns-in_default : goal.returns-in_default
returns-in_default c = let none : c.told.result ≡ 0 = omega arith in search line-unlisted

pub returns-in_default-2 : goal.returns-in_default-2
returns-in_default-2 c = search line-none
