-- How a line inside LC_COLLATE that is read whole begins, and what the paper makes of it then (Rattle.rules.specs.Source, whole_line), for
-- every state in LC_COLLATE.
use Rattle.std.specs.Prelude.{◌≡◌, Bool, true, false, List, [], ◌∷◌, ℕ, ◌≤◌, ◌<◌, length}
use Rattle.rules.specs.Text.{◌unless◌, lower}
use Rattle.rules.specs.Names.{name_refusal}
use Rattle.rules.specs.Tokens.{word, name, Token, tokens_of, operands, tokens_refusal}
use Rattle.rules.specs.State.{State, in_collate, Outcome, gives}
use Rattle.rules.specs.OrderLines.{subject_of, order_line}
use Rattle.rules.specs.Source.{collate_line, whole_line}
use Rattle.base_units.specs.Numbers.{number_or_none}
use Rattle.text_lines.specs.declared.Signs.{Signs}
use Rattle.text_lines.specs.declared.Spot.{Spot}
use Rattle.text_lines.specs.declared.LineEnd.{LineEnd}
use Rattle.text_lines.specs.Stream.{marks_left, end_of, line_start, Walk, LineIs}
use Rattle.text_tokens.specs.declared.Tok.{Tok}
use Rattle.text_tokens.specs.Left.{tokens_left, token_there, word_in, name_in, TokenIs}
use Rattle.locale_opening.specs.declared.Opening.{Opening}
use Rattle.locale_opening.specs.declared.Opening.TheVariants as opening

-- the marks of the line at a place
abbrev pub line_marks : Signs → List ℕ → ℕ → List ℕ
line_marks g src at = marks_left g src (line_start at)

-- the operands of a line with the first token t
abbrev pub operands_after : Signs → List ℕ → Tok → List Token
operands_after g src t = operands (tokens_left g src t.next)

-- an outcome, and the refusals of bytes that are no text and of tokens
abbrev pub refused_with : Bool → ℕ → Outcome → Outcome
refused_with text r o = gives (lower (2 unless text) (lower r o.refusal)) o.state

-- A line that holds nothing but blanks changes nothing: "Blank lines are ignored."
pub record BlankLine (g : Signs) (src : List ℕ) (at : ℕ) (e : LineEnd) : Type 0 where
  pub line : LineIs g src (line_start at) e
  pub none : tokens_of (line_marks g src at) ≡ []
  pub outcome : (s : State) (number : ℕ) → in_collate s ≡ true → whole_line s number (line_marks g src at) ≡ gives 0 s

-- A line whose first token is neither a word nor a name, or that is malformed.
pub record FoulLine (g : Signs) (src : List ℕ) (at : ℕ) (e : LineEnd) : Type 0 where
  pub line : LineIs g src (line_start at) e
  pub refusal : (s : State) (number : ℕ) → in_collate s ≡ true → (whole_line s number (line_marks g src at)).refusal ≡ lower (2 unless e.text) 3

-- The line's first token t, at the spot q after blanks. The line goes on after it, by one byte at least where the source does. Where a byte
-- of the line is no text, its refusal is 2 whatever it holds.
pub record FirstAt (g : Signs) (src : List ℕ) (at : ℕ) (q : Spot) (t : Tok) (e : LineEnd) : Type 0 where
  pub line : LineIs g src (line_start at) e
  pub start : q ≡ line_start q.at
  pub token : TokenIs g src q t
  pub tokens : tokens_of (line_marks g src at) ≡ token_there g src q ∷ tokens_left g src t.next
  pub walk : Walk g src (line_start at) q
  pub from : at ≤ q.at
  pub end : end_of g src (line_start at) ≡ end_of g src t.next
  pub more : t.next.at < length src → t.next.at < e.next
  pub foul : (s : State) (number : ℕ) → in_collate s ≡ true → e.text ≡ false → (whole_line s number (line_marks g src at)).refusal ≡ 2

-- It is a word.
pub record WordLine (g : Signs) (src : List ℕ) (at : ℕ) (q : Spot) (t : Tok) (e : LineEnd) : Type 0 where
  pub first : FirstAt g src at q t e
  pub kind : t.kind ≡ word
  pub outcome : (s : State) (number : ℕ) → in_collate s ≡ true
      → whole_line s number (line_marks g src at)
      ≡ refused_with e.text (tokens_refusal (operands_after g src t)) (collate_line s number (word_in (marks_left g src q)) (operands_after g src t))

-- It is a name.
pub record NameLine (g : Signs) (src : List ℕ) (at : ℕ) (q : Spot) (t : Tok) (e : LineEnd) : Type 0 where
  pub first : FirstAt g src at q t e
  pub kind : t.kind ≡ name
  pub refusal : number_or_none t.refusal ≡ name_refusal (name_in (marks_left g src t.inside))
  pub outcome : (s : State) (number : ℕ) → in_collate s ≡ true
      → whole_line s number (line_marks g src at)
      ≡ refused_with e.text (lower (number_or_none t.refusal) (tokens_refusal (operands_after g src t))) (order_line s number (subject_of (name_in (marks_left g src t.inside))) (operands_after g src t))

abbrev pub OpeningIs : Signs → List ℕ → ℕ → Opening → Type 0
OpeningIs g src at (opening.Blank e) = BlankLine g src at e
OpeningIs g src at (opening.Foul e) = FoulLine g src at e
OpeningIs g src at (opening.Word q t e) = WordLine g src at q t e
OpeningIs g src at (opening.Name q t e) = NameLine g src at q t e
