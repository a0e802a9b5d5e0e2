-- A line of a charmap's header as code reads it: what it leaves is the paper's header_line (Rattle.rules.specs.Charmap).
use Rattle.std.specs.Prelude.{◌≡◌, Bool, true, false, ◌&&◌, List, [], ◌∷◌, ◌++◌, ℕ, ◌+◌, ◌≤◌, ◌<◌, length, drop, Err, Ok, Result}
use Rattle.rules.specs.Text.{every, is, ◌unless◌, lower}
use Rattle.rules.specs.Names.{is_blank}
use Rattle.rules.specs.Tokens.{is_text, name, Token, token, token_at, no_part, tokens_from, tokens_of, operands}
use Rattle.rules.specs.Lines.{in_plain, Scan, line_of}
use Rattle.rules.specs.Charmap.{Mapping, MapOutcome, leaves, is_header, is_word, header_line, map_signs}
use Rattle.base_units.specs.Numbers.{number_of}
use Rattle.text_lines.specs.declared.Signs.{Signs}
use Rattle.text_lines.specs.declared.Spot.{Spot}
use Rattle.text_lines.specs.Stream.{line_left, line_start, marks_left, Run, MarkIs}
use Rattle.text_tokens.specs.Left.{tokens_left, Skips}
use Rattle.text_specials.specs.declared.Chars.{Chars}
use Rattle.text_specials.specs.Force.{chars_as}
use Rattle.text_specials.specs.Signed.{Visible, keyword, ByteTaken}
use Rattle.base_units.specs.declared.Refusal.{Refusal}

-- ## What a header line is

-- the two characters, for the reader of lines
abbrev pub signs_of : Chars → Signs
signs_of h = record { comment = h.comment; escape = h.escape }

-- the state with these two characters, before CHARMAP or right after it
abbrev pub head_with : Chars → Bool → Mapping
head_with h opened = record { chars = chars_as h; opened = opened; closed = false; given = [] }

-- the paper's line at a place of the header
abbrev pub line_at : List ℕ → Chars → ℕ → Scan
line_at src h at = line_of (map_signs (head_with h false)) (drop at src)

-- what it leaves
abbrev pub outcome_at : List ℕ → Chars → ℕ → MapOutcome
outcome_at src h at = header_line (head_with h false) (line_at src h at).marks

-- A line that is not refused: the two characters after it, whether CHARMAP has stood, the place after it and its LFs.
pub record Leaves (src : List ℕ) (h : Chars) (at : ℕ) (c : Chars) (opened : Bool) (next k : ℕ) : Type 0 where
  pub refusal : (outcome_at src h at).refusal ≡ 0
  pub mapping : (outcome_at src h at).mapping ≡ head_with c opened
  pub end : at + (line_at src h at).size ≡ next
  pub feeds : (line_at src h at).feeds ≡ k
  pub on : at < next
  pub to : next ≤ length src
  pub few : at + k ≤ next
  pub visible : Visible (signs_of c)

-- A line that is refused.
pub record Stops (src : List ℕ) (h : Chars) (at n : ℕ) : Type 0 where
  pub refusal : (outcome_at src h at).refusal ≡ n
  pub some : n ≡ 0 → ⊥

abbrev pub HeadingIs : List ℕ → Chars → ℕ → Result (Chars × Bool × ℕ × ℕ) Refusal → Type 0
HeadingIs src h at (Ok (c, opened, next, feeds)) = Leaves src h at c opened next feeds
HeadingIs src h at (Err r) = Stops src h at (number_of r)

-- ## Lines in which no byte is taken as it stands

-- the marks of the plain line at a place
abbrev pub plain_marks_at : List ℕ → Chars → ℕ → List ℕ
plain_marks_at src h at = marks_left (signs_of h) src (line_start at)

-- The line is a plain one.
pub record Plain (src : List ℕ) (h : Chars) (at : ℕ) : Type 0 where
  pub inside : at < length src
  pub visible : Visible (signs_of h)
  pub is : line_at src h at ≡ line_left (signs_of h) src (line_start at)

-- It changes nothing.
pub record PassedOver (src : List ℕ) (h : Chars) (at : ℕ) : Type 0 where
  pub plain : Plain src h at
  pub outcome : header_line (head_with h false) (plain_marks_at src h at) ≡ leaves 0 (head_with h false)

-- It is refused for its form, or for its bytes.
pub record Malformed (src : List ℕ) (h : Chars) (at : ℕ) : Type 0 where
  pub plain : Plain src h at
  pub refusal : (header_line (head_with h false) (plain_marks_at src h at)).refusal ≡ lower (2 unless every is_text (plain_marks_at src h at)) 3

-- the tokens are CHARMAP alone
unfoldable pub is_opening : List Token → Bool
is_opening ts = is_word (token_at ts 0) (operands (drop 1 ts)) && is (token_at ts 0).text "CHARMAP"

-- It does not begin with `<`; its first token is at q.
pub record Opening (src : List ℕ) (h : Chars) (at : ℕ) (q : Spot) : Type 0 where
  pub plain : Plain src h at
  pub skips : Skips (signs_of h) src (line_start at) q
  pub some : length (tokens_left (signs_of h) src q) ≡ 0 → ⊥
  pub no_name : is_header (plain_marks_at src h at) ≡ false

-- ## Lines that begin with `<`

-- It begins with `<`; the spot after that.
pub record NameOpens (src : List ℕ) (h : Chars) (at : ℕ) (p : Spot) : Type 0 where
  pub inside : at < length src
  pub visible : Visible (signs_of h)
  pub blanks : Spot
  pub skips : Skips (signs_of h) src (line_start at) blanks
  pub mark : MarkIs (signs_of h) src blanks 60 p

-- Marks that are blanks and `<comment_char>` or `<escape_char>`, whatever follows them.
pub record Named (comment : Bool) (ms : List ℕ) : Type 0 where
  pub tokens : (ns : List ℕ) → tokens_of (ms ++ ns) ≡ token name [] (keyword comment ∷ []) ∷ tokens_from (no_part []) ns
  pub header : (ns : List ℕ) → is_header (ms ++ ns) ≡ true
  pub text : every is_text ms ≡ true

-- Such a name opens the line; the spot after it.
pub record SignNamed (src : List ℕ) (h : Chars) (at : ℕ) (p : Spot) (comment : Bool) : Type 0 where
  pub inside : at < length src
  pub visible : Visible (signs_of h)
  pub marks : List ℕ
  pub named : Named comment marks
  pub feeds : ℕ
  pub run : Run (signs_of h) src marks feeds (line_start at) p
  pub mode : p.mode ≡ in_plain
  pub to : p.at ≤ length src

-- A blank stands after it; the spot after that.
pub record SignOpened (src : List ℕ) (h : Chars) (at : ℕ) (x : Spot) (comment : Bool) : Type 0 where
  pub inside : at < length src
  pub visible : Visible (signs_of h)
  pub marks : List ℕ
  pub named : Named comment marks
  pub last : ℕ
  pub blank : is_blank last ≡ true
  pub feeds : ℕ
  pub run : Run (signs_of h) src (marks ++ last ∷ []) feeds (line_start at) x
  pub mode : x.mode ≡ in_plain
  pub fresh : x.fresh ≡ true
  pub to : x.at ≤ length src

-- The byte c is taken as it stands, after the name and blanks.
pub record SetBy (src : List ℕ) (h : Chars) (at : ℕ) (comment : Bool) (c k : ℕ) (rest : Spot) : Type 0 where
  pub visible : Visible (signs_of h)
  pub marks : List ℕ
  pub named : Named comment marks
  pub first : ℕ
  pub more : List ℕ
  pub are : every is_blank (first ∷ more) ≡ true
  pub taken : ByteTaken (map_signs (head_with h false)) (signs_of h) src at (marks ++ first ∷ more) c k rest
