-- The rules of `order_start` as code reads them, one by one: what is still to come at a spot is the paper's own list
-- (Rattle.rules.specs.OrderLines).
use Rattle.std.specs.Prelude.{◌≡◌, true, false, List, [], ◌∷◌, map, ℕ, ◌≤◌, ◌<◌, length, eqb, leb, if◌then◌else◌}
use Rattle.rules.specs.Text.{◌unless◌, lower}
use Rattle.rules.specs.Lines.{in_plain}
use Rattle.rules.specs.Tokens.{comma, Token, tokens_refusal}
use Rattle.rules.specs.OrderLines.{split_at, rule_word, rule_code, rules_formed}
use Rattle.text_lines.specs.declared.Signs.{Signs}
use Rattle.text_lines.specs.declared.Spot.{Spot}
use Rattle.text_operands.specs.Operand.{operands_left}
use Rattle.locale_levels.specs.Numbers.{code_or_none}
use Rattle.locale_levels.specs.declared.RuleStep.{RuleStep}
use Rattle.locale_levels.specs.declared.RuleStep.TheVariants as ruleStep

-- ## A rule, token by token

-- what a token is in a rule: its word's number, or 3 for a comma
unfoldable pub symbol_of : Token → ℕ
symbol_of t = if eqb t.kind comma then 3 else rule_word t

-- What a rule is with one more token. 0: nothing yet; 1, 2, 4, 5, 6: a rule with this code; 9, 10, 12: such a word and a comma; 7: no rule
unfoldable pub joined_to : ℕ → ℕ → ℕ
joined_to s x =
    if eqb s 0 then (if eqb x 0 then 7 else if eqb x 3 then 7 else x)
    else if eqb x 3 then (if eqb s 1 then 9 else if eqb s 2 then 10 else if eqb s 4 then 12 else 7)
    else if eqb s 9 then (if eqb x 4 then 5 else 7)
    else if eqb s 10 then (if eqb x 4 then 6 else 7)
    else if eqb s 12 then (if eqb x 1 then 5 else if eqb x 2 then 6 else 7)
    else 7

-- the code of such a number
unfoldable pub code_of : ℕ → ℕ
code_of s = if leb s 6 then s else 0

-- ## The rules from a spot on

-- their codes, where no token stands right before
unfoldable pub codes_left : Signs → List ℕ → Spot → List ℕ
codes_left g src p = map rule_code (split_at [] (operands_left g src false p))

-- the refusal of what is malformed: of tokens anywhere, and 3 for quotes and for two words with no separator between them
unfoldable pub malformed : List Token → ℕ
malformed ts = lower (tokens_refusal ts) (3 unless rules_formed false ts)

-- A rule with this code, and after its `;` the rules from another spot on.
pub record RuleMore (g : Signs) (src : List ℕ) (p : Spot) (code : ℕ) (next : Spot) : Type 0 where
  pub codes : codes_left g src p ≡ code ∷ codes_left g src next
  pub formed : rules_formed false (operands_left g src false p) ≡ rules_formed false (operands_left g src false next)
  pub refusal : tokens_refusal (operands_left g src false next) ≡ 3 → tokens_refusal (operands_left g src false p) ≡ 3
  pub mode : next.mode ≡ in_plain
  pub on : p.at < next.at
  pub to : next.at ≤ length src

-- A rule with this code is the last one.
pub record RuleLast (g : Signs) (src : List ℕ) (p : Spot) (code : ℕ) : Type 0 where
  pub codes : codes_left g src p ≡ code ∷ []
  pub formed : rules_formed false (operands_left g src false p) ≡ true

abbrev pub RuleIs : Signs → List ℕ → Spot → RuleStep → Type 0
RuleIs g src p (ruleStep.More r next) = RuleMore g src p (code_or_none r) next
RuleIs g src p (ruleStep.Last r) = RuleLast g src p (code_or_none r)
RuleIs g src p ruleStep.Broken = malformed (operands_left g src false p) ≡ 3
