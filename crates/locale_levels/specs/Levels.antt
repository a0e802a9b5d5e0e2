-- The levels that the operands of `order_start` give: how many, or the refusal that the paper's line gives (Rattle.rules.specs.OrderLines).
use Rattle.std.specs.Prelude.{◌≡◌, Bool, true, false, List, [], ◌∷◌, ℕ, ◌≤◌, length, leb, Err, None, Ok, Option, Result, Some}
use Rattle.rules.specs.Text.{every, ◌unless◌, lower, lowest}
use Rattle.rules.specs.Tokens.{Token, tokens_refusal}
use Rattle.rules.specs.OrderLines.{rule_codes, rules_formed}
use Rattle.base_units.specs.declared.Refusal.{Refusal}
use Rattle.base_units.specs.Numbers.{number_of}
use Rattle.text_lines.specs.declared.Signs.{Signs}
use Rattle.text_lines.specs.declared.Spot.{Spot}
use Rattle.text_operands.specs.Operand.{operands_left}
use Rattle.locale_levels.specs.Rules.{codes_left, malformed}

-- ## Counting

-- The rules from a spot on are so many, and each is known or one is not.
pub record Counts (g : Signs) (src : List ℕ) (p : Spot) (n : ℕ) (known : Bool) : Type 0 where
  pub many : length (codes_left g src p) ≡ n
  pub some : 1 ≤ n
  pub all : every (leb 1) (codes_left g src p) ≡ known
  pub formed : rules_formed false (operands_left g src false p) ≡ true

abbrev pub TallyIs : Signs → List ℕ → Spot → Option (ℕ × Bool) → Type 0
TallyIs g src p (Some (n, known)) = Counts g src p n known
TallyIs g src p None = malformed (operands_left g src false p) ≡ 3

-- ## Judging

-- "unknown .. rule" (4); "1 to 8 levels" (7)
unfoldable pub count_refusal : ℕ → Bool → ℕ
count_refusal n known = lower (4 unless known) (7 unless leb n 8)

-- n levels; or a refusal
abbrev pub JudgedIs : ℕ → ℕ → Bool → Result ℕ Refusal → Type 0
JudgedIs r n known (Ok l) = (lower r (count_refusal n known) ≡ 0) × (l ≡ n)
JudgedIs r n known (Err f) = (lower r (count_refusal n known) ≡ number_of f) × (1 ≤ number_of f)

-- ## The levels

-- the lowest refusal of these operands of `order_start`, where it stands in its place: of their tokens, and of the rules
unfoldable pub start_refusal : List Token → ℕ
start_refusal os =
    lower (tokens_refusal os)
    (lowest (3 unless rules_formed false os ∷ 4 unless every (leb 1) (rule_codes os) ∷ 7 unless leb (length (rule_codes os)) 8 ∷ []))

-- They are accepted, and give l levels.
pub record LevelsAre (os : List Token) (l : ℕ) : Type 0 where
  pub accepted : start_refusal os ≡ 0
  pub many : l ≡ length (rule_codes os)
  pub some : 1 ≤ l
  pub few : l ≤ 8
  pub known : every (leb 1) (rule_codes os) ≡ true

-- They are refused with f.
pub record LevelsRefused (os : List Token) (f : ℕ) : Type 0 where
  pub refusal : start_refusal os ≡ f
  pub some : 1 ≤ f

abbrev pub LevelsIs : List Token → Result ℕ Refusal → Type 0
LevelsIs os (Ok l) = LevelsAre os l
LevelsIs os (Err f) = LevelsRefused os (number_of f)
