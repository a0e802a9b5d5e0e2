-- The operands of a line as code reads them: what is still to come at a spot is the paper's own list (Rattle.rules.specs.Tokens).
use Rattle.std.specs.Prelude.{◌≡◌, Bool, true, false, List, [], ◌∷◌, ℕ, ◌≤◌, length, leb, None, Option, Some}
use Rattle.rules.specs.Lines.{in_plain}
use Rattle.rules.specs.Tokens.{broken, word, Token, token, single, without_gaps, operands, tokens_refusal}
use Rattle.text_lines.specs.declared.Signs.{Signs}
use Rattle.text_lines.specs.declared.Spot.{Spot}
use Rattle.text_lines.specs.Stream.{marks_left, Walk}
use Rattle.text_tokens.specs.declared.Tok.{Tok}
use Rattle.text_tokens.specs.Left.{tokens_left, token_there, word_in, TokenIs}
use Rattle.text_operands.specs.declared.Operand.{Operand}
use Rattle.text_operands.specs.declared.Operand.TheVariants as operand
use Rattle.text_operands.specs.declared.After.{After}
use Rattle.text_operands.specs.declared.After.TheVariants as after

-- ## Operands from a spot on

-- the operands still to come; `glued`: a token that is no separator stands right before
unfoldable pub operands_left : Signs → List ℕ → Bool → Spot → List Token
operands_left g src glued p = without_gaps glued (tokens_left g src p)

-- An operand that begins at q, after blanks: no blank, and not malformed. Where a comment may open before the blanks, it may at q; and so it
-- may where q is the start of one that is no separator and follows another such.
pub record OperandAt (g : Signs) (src : List ℕ) (glued : Bool) (p q : Spot) (t : Tok) : Type 0 where
  pub first : operands_left g src glued p ≡ token_there g src q ∷ operands_left g src (leb broken t.kind) t.next
  pub token : TokenIs g src q t
  pub seen : 1 ≤ t.kind
  pub whole : t.kind ≡ broken → ⊥
  pub fresh : p.fresh ≡ true → q.fresh ≡ true
  pub apart : glued ≡ true → broken ≤ t.kind → q.fresh ≡ true
  pub mode : q.mode ≡ in_plain
  pub from : p.at ≤ q.at
  pub to : q.at ≤ length src
  pub walk : Walk g src p q

-- the next operand; or that one is malformed; or that there is none
abbrev pub OperandIs : Signs → List ℕ → Bool → Spot → Operand → Type 0
OperandIs g src glued p (operand.Token q t) = OperandAt g src glued p q t
OperandIs g src glued p operand.Broken = tokens_refusal (operands_left g src glued p) ≡ 3
OperandIs g src glued p operand.End = operands_left g src glued p ≡ []

-- ## After the first token

-- From p on the operands of a line are those still to come at x, after blanks.
pub record OperandsFrom (g : Signs) (src : List ℕ) (p x : Spot) : Type 0 where
  pub operands : operands (tokens_left g src p) ≡ operands_left g src false x
  pub fresh : x.fresh ≡ true
  pub mode : x.mode ≡ in_plain
  pub from : p.at ≤ x.at
  pub to : x.at ≤ length src
  pub walk : Walk g src p x

-- what follows the first token, from the spot after that on; where no blank does, it is malformed
abbrev pub AfterIs : Signs → List ℕ → Spot → After → Type 0
AfterIs g src p (after.Operands x) = OperandsFrom g src p x
AfterIs g src p after.Broken = operands (tokens_left g src p) ≡ token broken [] [] ∷ []
AfterIs g src p after.None = operands (tokens_left g src p) ≡ []

-- ## One operand

-- The operands are one word, which begins at q, after a blank.
pub record WordAlone (g : Signs) (src : List ℕ) (os : List Token) (q : Spot) : Type 0 where
  pub alone : os ≡ token word (word_in (marks_left g src q)) [] ∷ []
  pub some : 1 ≤ length (word_in (marks_left g src q))
  pub fresh : q.fresh ≡ true
  pub mode : q.mode ≡ in_plain
  pub to : q.at ≤ length src

abbrev pub OneIs : Signs → List ℕ → List Token → Option Spot → Type 0
OneIs g src os (Some q) = WordAlone g src os q
OneIs g src os None = single word os ≡ false
