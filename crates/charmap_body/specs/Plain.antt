-- What a line between CHARMAP and END CHARMAP does that is no entry (Rattle.rules.specs.Charmap).
use Rattle.std.specs.Prelude.{◌≡◌, Bool, true, false, ◌&&◌, List, ℕ, ◌+◌, ◌≤◌, ◌<◌, length, drop, eqb, Err, Ok, Result}
use Rattle.rules.specs.Text.{bytes, same}
use Rattle.rules.specs.Tokens.{word, Token, token_at, single, operands}
use Rattle.rules.specs.Charmap.{Mapping, leaves, body_line}
use Rattle.base_units.specs.Numbers.{number_of}
use Rattle.text_lines.specs.declared.Signs.{Signs}
use Rattle.text_lines.specs.Stream.{line_left, marks_left, end_of, line_start}
use Rattle.charmap_body.specs.declared.Kind.{Kind}
use Rattle.charmap_body.specs.declared.Kind.TheVariants as kind
use Rattle.base_units.specs.declared.Refusal.{Refusal}

-- the word w alone
unfoldable pub sole_word : List Token → List ℕ → Bool
sole_word os w = single word os && same (token_at os 0).text w

-- "END CHARMAP"
unfoldable pub is_end_line : List Token → Bool
is_end_line ts = same (token_at ts 0).text (bytes "END") && sole_word (operands (drop 1 ts)) (bytes "CHARMAP")

-- ## What the functions give

-- A line with a token: whether it is END CHARMAP.
pub record Tokened (ts : List Token) (end : Bool) : Type 0 where
  pub some : eqb (length ts) 0 ≡ false
  pub ends : is_end_line ts ≡ end

abbrev pub KindIs : List Token → Kind → Type 0
KindIs ts kind.Blank = eqb (length ts) 0 ≡ true
KindIs ts kind.End = Tokened ts true
KindIs ts kind.Other = Tokened ts false

-- The place after a line that begins at a place, and its LFs.
pub record LineTo (g : Signs) (src : List ℕ) (at next feeds : ℕ) : Type 0 where
  pub end : end_of g src (line_start at) ≡ next
  pub fed : (line_left g src (line_start at)).feeds ≡ feeds
  pub few : at + feeds ≤ next
  pub to : next ≤ length src
  pub on : at < length src → at < next

-- the state after END CHARMAP
abbrev pub closed_after : Mapping → Mapping
closed_after m = record { chars = m.chars; opened = true; closed = true; given = m.given }

-- A line that changes nothing.
pub record BlankLine (g : Signs) (src : List ℕ) (at next feeds : ℕ) : Type 0 where
  pub line : LineTo g src at next feeds
  pub same : (m : Mapping) → body_line m (marks_left g src (line_start at)) ≡ leaves 0 m

-- The last line.
pub record EndLine (g : Signs) (src : List ℕ) (at next feeds : ℕ) : Type 0 where
  pub line : LineTo g src at next feeds
  pub closes : (m : Mapping) → body_line m (marks_left g src (line_start at)) ≡ leaves 0 (closed_after m)

-- A line that is refused.
pub record BadLine (g : Signs) (src : List ℕ) (at n : ℕ) : Type 0 where
  pub refusal : (m : Mapping) → (body_line m (marks_left g src (line_start at))).refusal ≡ n
  pub some : 0 < n

-- whether it is END CHARMAP, the place after it, and its LFs
abbrev pub PlainIs : Signs → List ℕ → ℕ → Result (Bool × ℕ × ℕ) Refusal → Type 0
PlainIs g src at (Ok (false, next, feeds)) = BlankLine g src at next feeds
PlainIs g src at (Ok (true, next, feeds)) = EndLine g src at next feeds
PlainIs g src at (Err r) = BadLine g src at (number_of r)
