-- The operands of an order line as code reads them: those still to come at a spot are the paper's own list (Rattle.rules.specs.OrderLines).
use Rattle.std.specs.Prelude.{◌≡◌, Bool, true, false, ◌&&◌, ◌||◌, List, [], ◌∷◌, map, ℕ, ◌≤◌, ◌<◌, length, eqb, leb}
use Rattle.rules.specs.Text.{every, is, ◌unless◌, lower, lowest}
use Rattle.rules.specs.Lines.{in_plain}
use Rattle.rules.specs.Tokens.{semi, broken, Token, token, tokens_refusal}
use Rattle.rules.specs.State.{Subject}
use Rattle.rules.specs.OrderLines.{split_at, is_names, subject_of}
use Rattle.text_lines.specs.declared.Signs.{Signs}
use Rattle.text_lines.specs.declared.Spot.{Spot}
use Rattle.text_lines.specs.Stream.{Walk}
use Rattle.text_tokens.specs.declared.Tok.{Tok}
use Rattle.text_tokens.specs.Left.{token_there, TokenIs}
use Rattle.text_operands.specs.Operand.{operands_left}
use Rattle.locale_weights.specs.declared.Weight.{Weight}
use Rattle.locale_weights.specs.declared.Weight.TheVariants as weight
use Rattle.locale_weights.specs.declared.Tail.{Tail}
use Rattle.locale_weights.specs.declared.Tail.TheVariants as tail

-- ## Refusals, f telling what stands

-- the paper's weight_refusal
unfoldable pub weight_refusal_by : (Subject → Bool) → List Token → ℕ
weight_refusal_by f [] = 0
weight_refusal_by f (t ∷ ts) =
    lowest
    (3 unless (eqb (length ts) 0 && (is_names t || is t.text "IGNORE"))
    ∷ 6 unless every f (map subject_of t.names)
    ∷ 7 unless leb (length t.names) 8
    ∷ [])

-- the paper's weights_refusal
unfoldable pub weights_refusal_by : (Subject → Bool) → List (List Token) → ℕ
weights_refusal_by f ws = lowest (map (weight_refusal_by f) ws)

-- ## What an operand is

-- the `;` between two
abbrev pub separator : Token
separator = token semi [] []

-- The operand at p is empty, and `next` is the spot after its `;`, if one follows.
pub record EmptyWeight (g : Signs) (src : List ℕ) (p : Spot) (more : Bool) (next : Spot) : Type 0 where
  pub on : more ≡ true → operands_left g src false p ≡ separator ∷ operands_left g src false next
  pub last : more ≡ false → operands_left g src false p ≡ []
  pub split-on : more ≡ true → split_at [] (operands_left g src false p) ≡ [] ∷ split_at [] (operands_left g src false next)
  pub less : more ≡ true → p.at < next.at
  pub mode : next.mode ≡ in_plain
  pub to : next.at ≤ length src
  pub walk : Walk g src p next

-- The operand at p is one token, which begins at q; `next` is the spot after the `;`, if one follows, else after the token.
pub record OneWeight (g : Signs) (src : List ℕ) (p q : Spot) (t : Tok) (more : Bool) (next : Spot) : Type 0 where
  pub token : TokenIs g src q t
  pub seen : 2 ≤ t.kind
  pub whole : t.kind ≡ broken → ⊥
  pub on : more ≡ true → operands_left g src false p ≡ token_there g src q ∷ separator ∷ operands_left g src false next
  pub last : more ≡ false → operands_left g src false p ≡ token_there g src q ∷ []
  pub split-on : more ≡ true → split_at [] (operands_left g src false p) ≡ (token_there g src q ∷ []) ∷ split_at [] (operands_left g src false next)
  pub split-last : more ≡ false → split_at [] (operands_left g src false p) ≡ (token_there g src q ∷ []) ∷ []
  pub begin-mode : q.mode ≡ in_plain
  pub begin-to : q.at ≤ length src
  pub less : p.at < next.at
  pub mode : next.mode ≡ in_plain
  pub to : next.at ≤ length src
  pub walk : Walk g src p next

-- Operands that are malformed, whatever stands.
pub record BadWeights (os : List Token) : Type 0 where
  pub by : (f : Subject → Bool) → lower (tokens_refusal os) (weights_refusal_by f (split_at [] os)) ≡ 3

-- ## What follows a token

-- A `;` comes next, and `next` is the spot after it.
pub record MoreWeights (g : Signs) (src : List ℕ) (glued : Bool) (p next : Spot) : Type 0 where
  pub on : operands_left g src glued p ≡ separator ∷ operands_left g src false next
  pub less : p.at < next.at
  pub mode : next.mode ≡ in_plain
  pub to : next.at ≤ length src
  pub walk : Walk g src p next

-- Behind any token these make the operands malformed.
pub record BadTail (os : List Token) : Type 0 where
  pub behind : (t : Token) → eqb t.kind semi ≡ false → BadWeights (t ∷ os)

abbrev pub TailIs : Signs → List ℕ → Bool → Spot → Tail → Type 0
TailIs g src glued p (tail.More next) = MoreWeights g src glued p next
TailIs g src glued p tail.Last = operands_left g src glued p ≡ []
TailIs g src glued p tail.Bad = BadTail (operands_left g src glued p)

-- ## The next operand

abbrev pub WeightIs : Signs → List ℕ → Spot → Weight → Type 0
WeightIs g src p (weight.Empty more next) = EmptyWeight g src p more next
WeightIs g src p (weight.One q t more next) = OneWeight g src p q t more next
WeightIs g src p weight.Bad = BadWeights (operands_left g src false p)
