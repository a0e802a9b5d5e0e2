-- What is known of a line in LC_COLLATE whose first token is a name: an order line.
use Rattle.base_units.specs.Numbers.{number_or_none}
use Rattle.std.specs.Prelude.{◌≡◌, true, List, ℕ, ◌≤◌, ◌<◌, length}
use Rattle.rules.specs.Text.{◌unless◌, lower}
use Rattle.rules.specs.Lines.{in_plain}
use Rattle.rules.specs.Tokens.{Token, operands, tokens_refusal}
use Rattle.rules.specs.Tokens as tokens
use Rattle.rules.specs.State.{Subject, State, in_collate, gives}
use Rattle.rules.specs.OrderLines.{subject_of, order_line}
use Rattle.rules.specs.Source.{whole_line}
use Rattle.text_lines.specs.declared.Signs.{Signs}
use Rattle.text_lines.specs.declared.Spot.{Spot}
use Rattle.text_lines.specs.declared.LineEnd.{LineEnd}
use Rattle.text_lines.specs.Stream.{marks_left, line_start, LineIs}
use Rattle.text_tokens.specs.declared.Tok.{Tok}
use Rattle.text_tokens.specs.Left.{tokens_left, name_in, TokenIs}

-- what the name that is a token names
abbrev pub subject_in : Signs → List ℕ → Tok → Subject
subject_in g src t = subject_of (name_in (marks_left g src t.inside))

-- the operands from a spot after a line's first token on
abbrev pub operands_from : Signs → List ℕ → Spot → List Token
operands_from g src p = operands (tokens_left g src p)

-- The line at a place opens with the name t; e is its end. The name begins at some spot of the line.
pub record NameLine (g : Signs) (src : List ℕ) (at : ℕ) (t : Tok) (e : LineEnd) : Type 0 where
  pub start : Spot
  pub whole : (s : State) (number : ℕ) → in_collate s ≡ true
      → whole_line s number (marks_left g src (line_start at))
      ≡ gives
      (lower (2 unless e.text) (lower (lower (number_or_none t.refusal) (tokens_refusal (operands_from g src t.next))) (order_line s number (subject_in g src t) (operands_from g src t.next)).refusal))
      (order_line s number (subject_in g src t) (operands_from g src t.next)).state
  pub token : TokenIs g src start t
  pub name : t.kind ≡ tokens.name
  pub line : LineIs g src (line_start at) e
  pub inside : at < length src
  pub plain : start.mode ≡ in_plain
  pub from : at ≤ start.at
  pub reach : t.next.at ≤ e.next
  pub far : t.next.at < length src → t.next.at < e.next
