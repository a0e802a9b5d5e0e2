-- The paper's numbers for the rules of `order_start` and for what is read of one.
use Rattle.std.specs.Prelude.{ℕ, Option, Some, None}
use Rattle.locale_levels.specs.declared.Rule.{Rule}
use Rattle.locale_levels.specs.declared.Rule.TheVariants as rule
use Rattle.locale_levels.specs.declared.Symbol.{Symbol}
use Rattle.locale_levels.specs.declared.Symbol.TheVariants as symbol
use Rattle.locale_levels.specs.declared.Reading.{Reading}
use Rattle.locale_levels.specs.declared.Reading.TheVariants as reading

-- the code of a rule
abbrev pub code_number : Rule → ℕ
code_number rule.Forward = 1
code_number rule.Backward = 2
code_number rule.Position = 4
code_number rule.ForwardPosition = 5
code_number rule.BackwardPosition = 6

-- the code of a rule, 0 where it is none
abbrev pub code_or_none : Option Rule → ℕ
code_or_none None = 0
code_or_none (Some r) = code_number r

-- the number of what a token is in a rule: its word's number, or 3 for a comma
abbrev pub symbol_number : Symbol → ℕ
symbol_number symbol.Forward = 1
symbol_number symbol.Backward = 2
symbol_number symbol.Position = 4
symbol_number symbol.Comma = 3
symbol_number symbol.Other = 0

-- the number of what is read of a rule (Rattle.locale_levels.specs.Rules, joined_to)
abbrev pub reading_number : Reading → ℕ
reading_number reading.Nothing = 0
reading_number reading.Forward = 1
reading_number reading.Backward = 2
reading_number reading.Position = 4
reading_number reading.ForwardComma = 9
reading_number reading.BackwardComma = 10
reading_number reading.PositionComma = 12
reading_number reading.ForwardPosition = 5
reading_number reading.BackwardPosition = 6
reading_number reading.NoRule = 7
