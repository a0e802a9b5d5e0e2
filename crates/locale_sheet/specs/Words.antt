-- A line in LC_COLLATE that opens with a word, as the functions of such lines are given it; and a line that a chain reads itself.
use Rattle.std.specs.Prelude.{◌≡◌, ◌⊎◌, Bool, true, false, ◌&&◌, ◌||◌, List, ℕ, ◌+◌, ◌≤◌, ◌<◌, length, eqb}
use Rattle.rules.specs.Text.{every, is, ◌unless◌, lower}
use Rattle.rules.specs.Lines.{in_plain}
use Rattle.rules.specs.Tokens.{is_text, word, Token, token_at, tokens_of, operands, tokens_refusal}
use Rattle.rules.specs.State.{State, in_collate, gives}
use Rattle.rules.specs.Source.{collate_line, whole_line}
use Rattle.text_lines.specs.declared.Signs.{Signs}
use Rattle.text_lines.specs.declared.Spot.{Spot}
use Rattle.text_lines.specs.declared.LineEnd.{LineEnd}
use Rattle.text_lines.specs.Stream.{marks_left, line_start, LineIs}
use Rattle.text_tokens.specs.Left.{tokens_left}

-- The line at a place opens with the word w; p is the spot after that, e the line's end. What the paper makes of it is what it makes of the
-- word and the operands, beside bytes that are no text and malformed tokens.
pub record WordLine (g : Signs) (src : List ℕ) (at : ℕ) (p : Spot) (e : LineEnd) (w : List ℕ) : Type 0 where
  pub whole : (s : State) (number : ℕ) → in_collate s ≡ true → whole_line s number (marks_left g src (line_start at))
      ≡ gives (lower (2 unless e.text) (lower (tokens_refusal (operands (tokens_left g src p))) (collate_line s number w (operands (tokens_left g src p))).refusal))
      (collate_line s number w (operands (tokens_left g src p))).state
  pub line : LineIs g src (line_start at) e
  pub inside : at < length src
  pub plain : p.mode ≡ in_plain
  pub edge : p.fresh ≡ false
  pub to : p.at ≤ length src
  pub long : length w + at ≤ p.at
  pub reach : p.at ≤ e.next
  pub far : p.at < length src → p.at < e.next

-- ## The lines of a chain

-- a word that begins or ends a branch of an open chain
abbrev pub is_turn : List ℕ → Bool
is_turn w = is w "elif" || is w "else" || is w "endif"

-- the first token is such a word
abbrev pub turns_first : List Token → Bool
turns_first ts = eqb (token_at ts 0).kind word && is_turn (token_at ts 0).text

-- a line is malformed, whatever the state is
abbrev pub Malformed : List ℕ → Type 0
Malformed marks = (s : State) (number : ℕ) → in_collate s ≡ true → (whole_line s number marks).refusal ≡ lower (2 unless every is_text marks) 3

-- The line at a place is one that an open chain reads: its first token is elif, else or endif; or, where an escape pair stands in that word,
-- it is malformed.
pub record TurnLine (g : Signs) (src : List ℕ) (at : ℕ) : Type 0 where
  pub either : (turns_first (tokens_of (marks_left g src (line_start at))) ≡ true) ⊎ Malformed (marks_left g src (line_start at))
