-- Writing the rules of the levels: the numbers that store them, and where they have room.
use Rattle.std.specs.Prelude.{◌≡◌, false, List, map, ℕ, ◌+◌, ◌≤◌, length}
use Rattle.rules.specs.Tokens.{Token}
use Rattle.rules.specs.OrderLines.{rule_of, rule_codes}
use Rattle.rules.specs.Table.{rule_number}
use Rattle.text_lines.specs.declared.Signs.{Signs}
use Rattle.text_lines.specs.declared.Spot.{Spot}
use Rattle.text_operands.specs.Operand.{operands_left}
use Rattle.locale_levels.specs.Rules.{codes_left, malformed}
use Rattle.locale_levels.specs.Levels.{start_refusal}

-- the numbers that store the rules with these codes
abbrev pub rule_numbers : List ℕ → List ℕ
rule_numbers cs = map rule_number (map rule_of cs)

-- The rules from a spot on are not malformed, and have room in an area from a place on.
pub record LeftFits (g : Signs) (src : List ℕ) (p : Spot) (room : List ℕ) (at : ℕ) : Type 0 where
  pub whole : malformed (operands_left g src false p) ≡ 3 → ⊥
  pub inside : at + length (codes_left g src p) ≤ length room

-- These operands of `order_start` are accepted, and their rules have room in an area from a place on.
pub record RulesFit (os : List Token) (room : List ℕ) (at : ℕ) : Type 0 where
  pub accepted : start_refusal os ≡ 0
  pub inside : at + length (rule_codes os) ≤ length room
