-- The refusal of an order line's operands, by what the work area holds as declared.
use Rattle.std.specs.Prelude.{◌≡◌, Bool, false, List, [], ◌∷◌, ℕ, suc, ◌≤◌, ◌<◌, length}
use Rattle.rules.specs.Text.{lower}
use Rattle.rules.specs.Lines.{in_plain}
use Rattle.rules.specs.Tokens.{Token, tokens_refusal}
use Rattle.rules.specs.State.{Subject}
use Rattle.rules.specs.OrderLines.{split_at}
use Rattle.base_units.specs.Numbers.{number_or_none}
use Rattle.text_lines.specs.declared.Signs.{Signs}
use Rattle.text_lines.specs.declared.Spot.{Spot}
use Rattle.text_operands.specs.Operand.{operands_left}
use Rattle.locale_weights.specs.Weights.{weight_refusal_by, weights_refusal_by}
use Rattle.work_subjects.specs.Keys.{key_at}
use Rattle.work_store.specs.Store.{Decl, Holds}
use Rattle.locale_standing.specs.Standing.{stands_in}
use Rattle.locale_standing.specs.declared.Turn.{Turn}
use Rattle.locale_standing.specs.declared.Turn.TheVariants as turn
use Rattle.locale_standing.specs.declared.Counted.{Counted}

-- ## One token

-- r is the refusal of the operand that is the token t, whatever list the area holds.
pub record WeightRefused (g : Signs) (src w : List ℕ) (t : Token) (r : ℕ) : Type 0 where
  pub is : (n : ℕ) (ds : List Decl) → Holds (key_at g src) (length src) w n ds → r ≡ weight_refusal_by (stands_in ds) (t ∷ [])

-- r is the lower of that and of the token's own refusal.
pub record OneRefused (g : Signs) (src w : List ℕ) (t : Token) (r : ℕ) : Type 0 where
  pub is : (n : ℕ) (ds : List Decl) → Holds (key_at g src) (length src) w n ds
      → r ≡ lower (tokens_refusal (t ∷ [])) (weight_refusal_by (stands_in ds) (t ∷ []))

-- ## Operands from a spot on

-- the refusal of operands, as tokens and as weights, f telling what stands
unfoldable pub refusal_of : (Subject → Bool) → List Token → ℕ
refusal_of f os = lower (tokens_refusal os) (weights_refusal_by f (split_at [] os))

-- how many there are
unfoldable pub many_of : List Token → ℕ
many_of os = length (split_at [] os)

-- The operand at p has the refusal r, which 3 is not above, and the next one begins at `next`.
pub record MoreRefusals (g : Signs) (src w : List ℕ) (p : Spot) (r : ℕ) (next : Spot) : Type 0 where
  pub refusal : (n : ℕ) (ds : List Decl) → Holds (key_at g src) (length src) w n ds
      → refusal_of (stands_in ds) (operands_left g src false p) ≡ lower r (refusal_of (stands_in ds) (operands_left g src false next))
  pub many : many_of (operands_left g src false p) ≡ suc (many_of (operands_left g src false next))
  pub bound : lower r 3 ≡ 3
  pub less : p.at < next.at
  pub mode : next.mode ≡ in_plain
  pub to : next.at ≤ length src

-- The operand at p has the refusal r, and is the last.
pub record LastRefusal (g : Signs) (src w : List ℕ) (p : Spot) (r : ℕ) : Type 0 where
  pub refusal : (n : ℕ) (ds : List Decl) → Holds (key_at g src) (length src) w n ds → refusal_of (stands_in ds) (operands_left g src false p) ≡ r
  pub many : many_of (operands_left g src false p) ≡ 1

-- The operands from p on are malformed.
pub record BadRefusal (g : Signs) (src w : List ℕ) (p : Spot) : Type 0 where
  pub refusal : (n : ℕ) (ds : List Decl) → Holds (key_at g src) (length src) w n ds → refusal_of (stands_in ds) (operands_left g src false p) ≡ 3

abbrev pub TurnIs : Signs → List ℕ → List ℕ → Spot → Turn → Type 0
TurnIs g src w p (turn.More r next) = MoreRefusals g src w p (number_or_none r) next
TurnIs g src w p (turn.Last r) = LastRefusal g src w p (number_or_none r)
TurnIs g src w p turn.Bad = BadRefusal g src w p

-- The refusal of the tokens os and of the operands ws that they are; and how many those are, unless they are malformed.
pub record Counts (g : Signs) (src w : List ℕ) (os : List Token) (ws : List (List Token)) (r : Counted) : Type 0 where
  pub refusal : (n : ℕ) (ds : List Decl) → Holds (key_at g src) (length src) w n ds
      → number_or_none r.refusal ≡ lower (tokens_refusal os) (weights_refusal_by (stands_in ds) ws)
  pub many : (number_or_none r.refusal ≡ 3 → ⊥) → r.operands ≡ length ws
