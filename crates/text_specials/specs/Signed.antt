-- A line outside every category: a plain one, or one with a byte that is taken as it stands.
use Rattle.std.specs.Prelude.{◌≡◌, Bool, true, false, List, [], ◌∷◌, ◌++◌, ℕ, ◌+◌, ◌≤◌, ◌<◌, length, drop, eqb, if◌then◌else◌, None, Option, Some}
use Rattle.rules.specs.Text.{bytes, every, same}
use Rattle.rules.specs.Names.{is_blank}
use Rattle.rules.specs.Lines as paper
use Rattle.rules.specs.Lines.{in_plain, is_word_line, line_of}
use Rattle.text_lines.specs.declared.Signs.{Signs}
use Rattle.text_lines.specs.declared.Spot.{Spot}
use Rattle.text_lines.specs.Stream.{outside_signs, line_left, line_start, marks_left, end_of, opens_with, Run}
use Rattle.text_tokens.specs.Left.{word_in, Skips}
use Rattle.text_specials.specs.declared.Keyword.{Keyword}
use Rattle.text_specials.specs.declared.Keyword.TheVariants as key

-- the two characters are no blanks
pub record Visible (g : Signs) : Type 0 where
  pub comment : is_blank g.comment ≡ false
  pub escape : is_blank g.escape ≡ false

-- the keyword: comment_char, or escape_char
abbrev pub keyword : Bool → List ℕ
keyword comment = if comment then bytes "comment_char" else bytes "escape_char"

-- which keyword a word is
abbrev pub WordIs : List ℕ → Keyword → Type 0
WordIs w key.Comment = w ≡ keyword true
WordIs w key.Escape = w ≡ keyword false
WordIs w key.Neither = (same w (keyword true) ≡ false) × (same w (keyword false) ≡ false)

-- The marks before the byte are the keyword and blanks; the byte; the rest of the line from the spot after it.
pub record TakenIs (g : Signs) (src : List ℕ) (at : ℕ) (comment : Bool) (c k : ℕ) (rest : Spot) : Type 0 where
  pub done : List ℕ
  pub word : is_word_line (keyword comment) done ≡ true
  pub opens : opens_with (keyword comment) done ≡ true
  pub marks : (line_of (outside_signs g) (drop at src)).marks ≡ done ++ (256 + c) ∷ marks_left g src rest
  pub feeds : (line_of (outside_signs g) (drop at src)).feeds ≡ k + (line_left g src rest).feeds
  pub end : at + (line_of (outside_signs g) (drop at src)).size ≡ end_of g src rest
  pub few : at + k ≤ rest.at
  pub mode : rest.mode ≡ in_plain
  pub to : rest.at ≤ length src

-- The same of a line of any kind s, with the marks done before the byte.
pub record ByteTaken (s : paper.Signs) (g : Signs) (src : List ℕ) (at : ℕ) (done : List ℕ) (c k : ℕ) (rest : Spot) : Type 0 where
  pub marks : (line_of s (drop at src)).marks ≡ done ++ (256 + c) ∷ marks_left g src rest
  pub feeds : (line_of s (drop at src)).feeds ≡ k + (line_left g src rest).feeds
  pub end : at + (line_of s (drop at src)).size ≡ end_of g src rest
  pub on : at < rest.at
  pub few : at + k ≤ rest.at
  pub mode : rest.mode ≡ in_plain
  pub to : rest.at ≤ length src

abbrev pub SignIs : Signs → List ℕ → ℕ → Option (Bool × ℕ × ℕ × Spot) → Type 0
SignIs g src at None = line_of (outside_signs g) (drop at src) ≡ line_left g src (line_start at)
SignIs g src at (Some (comment, c, k, rest)) = TakenIs g src at comment c k rest

-- ## The first byte after blanks

-- the line ends
abbrev pub line_ends : List ℕ → Bool
line_ends [] = true
line_ends (b ∷ bs) = eqb b 10

-- Blanks stand from a place on, and then these bytes.
pub record Blanks (src : List ℕ) (at : ℕ) (rest : List ℕ) : Type 0 where
  pub blanks : List ℕ
  pub are : every is_blank blanks ≡ true
  pub split : drop at src ≡ blanks ++ rest

-- A byte after them, at a place.
pub record ByteAt (src : List ℕ) (at b i : ℕ) : Type 0 where
  pub before : Blanks src at (b ∷ drop (i + 1) src)
  pub place : at + length before.blanks ≡ i
  pub inside : i < length src
  pub solid : is_blank b ≡ false
  pub no-feed : b ≡ 10 → ⊥

-- The line ends after them.
pub record NoByte (src : List ℕ) (at : ℕ) : Type 0 where
  pub rest : List ℕ
  pub before : Blanks src at rest
  pub ends : line_ends rest ≡ true

abbrev pub FoundIs : List ℕ → ℕ → Option (ℕ × ℕ) → Type 0
FoundIs src at (Some (b, i)) = ByteAt src at b i
FoundIs src at None = NoByte src at

-- ## Up to the first blank after the keyword

-- The keyword opens a line after blanks.
pub record KeywordAt (g : Signs) (src : List ℕ) (at : ℕ) (q : Spot) (comment : Bool) : Type 0 where
  pub visible : Visible g
  pub inside : at ≤ length src
  pub skips : Skips g src (line_start at) q
  pub word : word_in (marks_left g src q) ≡ keyword comment

-- From the line's first spot blanks, the keyword and one blank are read.
pub record Opened (g : Signs) (src : List ℕ) (at : ℕ) (x : Spot) (comment : Bool) : Type 0 where
  pub visible : Visible g
  pub inside : at ≤ length src
  pub blanks : List ℕ
  pub are : every is_blank blanks ≡ true
  pub last : ℕ
  pub blank : is_blank last ≡ true
  pub feeds : ℕ
  pub run : Run g src (blanks ++ (keyword comment ++ last ∷ [])) feeds (line_start at) x
  pub mode : x.mode ≡ in_plain
  pub fresh : x.fresh ≡ true
  pub to : x.at ≤ length src
