-- A line as code reads it: from a spot in the source on, one mark after the other, with nothing kept. What is still to come is the
-- paper's own line (Rattle.rules.specs.Lines), begun in the middle.
use Rattle.std.specs.Prelude.{◌≡◌, Bool, true, false, ◌&&◌, List, [], ◌∷◌, ◌++◌, ℕ, ◌+◌, ◌≤◌, ◌<◌, length, get_or, drop, None, Option, Some}
use Rattle.rules.specs.Text.{every, begins}
use Rattle.rules.specs.Names.{is_blank}
use Rattle.rules.specs.Tokens.{is_text, without_blanks}
use Rattle.rules.specs.Lines.{in_plain, in_comment, after, Scan, line_from, takes_as_is, ends_entry}
use Rattle.rules.specs.Lines as paper
use Rattle.text_lines.specs.declared.Signs.{Signs}
use Rattle.text_lines.specs.declared.Spot.{Spot}
use Rattle.text_lines.specs.declared.LineEnd.{LineEnd}
use Rattle.text_lines.specs.declared.Item.{Item}
use Rattle.text_lines.specs.declared.Item.TheVariants as item

-- ## What is still to come

-- the two characters in force for a line in which no byte is taken as it stands and no entry ends
abbrev pub plain_signs : Signs → paper.Signs
plain_signs g = record { comment = g.comment; escape = g.escape; outside = false; header = false; body = false }

-- the same for a line outside every category, in which the c of comment_char and escape_char is taken as it stands
abbrev pub outside_signs : Signs → paper.Signs
outside_signs g = record { comment = g.comment; escape = g.escape; outside = true; header = false; body = false }

-- a line that goes on: its mode, whether a comment may open, its marks, LFs and bytes so far
abbrev pub state_in : ℕ → Bool → List ℕ → ℕ → ℕ → Scan
state_in mode fresh marks feeds size = record {
  mode = mode;
  fresh = fresh;
  escaped = false;
  ended = false;
  marks = marks;
  feeds = feeds;
  size = size;
}

-- at a spot
abbrev pub state_at : Spot → List ℕ → ℕ → ℕ → Scan
state_at p marks feeds size = state_in p.mode p.fresh marks feeds size

-- the rest of the line from a spot of a source on
unfoldable pub line_left : Signs → List ℕ → Spot → Scan
line_left g src p = line_from (plain_signs g) (state_at p [] 0 0) (drop p.at src)

-- its marks
abbrev pub marks_left : Signs → List ℕ → Spot → List ℕ
marks_left g src p = (line_left g src p).marks

-- the place after the line
abbrev pub end_of : Signs → List ℕ → Spot → ℕ
end_of g src p = p.at + (line_left g src p).size

-- the first spot of a line that begins at a place
abbrev pub line_start : ℕ → Spot
line_start at = record { at = at; mode = in_plain; fresh = true }

-- ## From spot to spot, whatever the line is

-- The same two characters are in force.
pub record Like (s : paper.Signs) (g : Signs) : Type 0 where
  pub comment : s.comment ≡ g.comment
  pub escape : s.escape ≡ g.escape

-- in a mode, with these marks before it, no byte is taken as it stands, and none ends an entry
abbrev pub Still : paper.Signs → ℕ → Bool → List ℕ → Type 0
Still s mode fresh done = (b : ℕ) → (takes_as_is s (state_in mode fresh done 0 0) b ≡ false) × (ends_entry s (state_in mode fresh done 0 0) b ≡ false)

-- so it is before each of these marks
abbrev pub Quiet : paper.Signs → ℕ → Bool → List ℕ → List ℕ → Type 0
Quiet s mode fresh done [] = Unit
Quiet s mode fresh done (m ∷ ms) = Still s mode fresh done × Quiet s (after mode m) (is_blank m) (done ++ m ∷ []) ms

-- the mode after marks
abbrev pub mode_through : ℕ → List ℕ → ℕ
mode_through mode [] = mode
mode_through mode (m ∷ ms) = mode_through (after mode m) ms

-- whether a comment may open after them
abbrev pub fresh_through : Bool → List ℕ → Bool
fresh_through fresh [] = fresh
fresh_through fresh (m ∷ ms) = fresh_through (is_blank m) ms

-- From p to q a line reads the marks ms and k LFs, of whatever kind it is, as long as it is quiet.
pub record Run (g : Signs) (src ms : List ℕ) (k : ℕ) (p q : Spot) : Type 0 where
  pub mode : q.mode ≡ mode_through p.mode ms
  pub fresh : q.fresh ≡ fresh_through p.fresh ms
  pub bytes : ℕ
  pub few : k + length ms ≤ bytes
  pub moved : p.at + bytes ≡ q.at
  pub goes : (s : paper.Signs) → Like s g → (done : List ℕ) (f z : ℕ) → Quiet s p.mode p.fresh done ms
      → line_from s (state_at p done f z) (drop p.at src) ≡ line_from s (state_at q (done ++ ms) (f + k) (z + bytes)) (drop q.at src)

-- From p to q a line reads some marks.
pub record Walk (g : Signs) (src : List ℕ) (p q : Spot) : Type 0 where
  pub passed : List ℕ
  pub feeds : ℕ
  pub run : Run g src passed feeds p q

-- From p to q a line reads k joins.
pub record Joins (g : Signs) (src : List ℕ) (k : ℕ) (p q : Spot) : Type 0 where
  pub mode : q.mode ≡ p.mode
  pub fresh : q.fresh ≡ p.fresh
  pub bytes : ℕ
  pub few : k ≤ bytes
  pub moved : p.at + bytes ≡ q.at
  pub goes : (s : paper.Signs) → Like s g → (done : List ℕ) (f z : ℕ) → Still s p.mode p.fresh done
      → line_from s (state_at p done f z) (drop p.at src) ≡ line_from s (state_at q done (f + k) (z + bytes)) (drop q.at src)

-- ## One step

-- From one spot to another of the same line the marks ms and k LFs are passed.
pub record Passes (g : Signs) (src : List ℕ) (ms : List ℕ) (k : ℕ) (p q : Spot) : Type 0 where
  pub marks : marks_left g src p ≡ ms ++ marks_left g src q
  pub feeds : (line_left g src p).feeds ≡ k + (line_left g src q).feeds
  pub end : end_of g src p ≡ end_of g src q
  pub on : p.at < q.at
  pub to : q.at ≤ length src

-- The mark m, and the spot after it: its mode and whether a comment may open there follow from the mark. In plain mode no byte is
-- taken as it stands.
pub record Marks (p : Spot) (m : ℕ) (q : Spot) : Type 0 where
  pub mode : q.mode ≡ after p.mode m
  pub fresh : q.fresh ≡ is_blank m
  pub small : m < 768
  pub dead : p.mode ≡ in_plain → 256 ≤ m → 512 ≤ m

-- A line that ends: the place after it, and its LFs.
pub record Ends (g : Signs) (src : List ℕ) (p : Spot) (next feeds : ℕ) : Type 0 where
  pub none : marks_left g src p ≡ []
  pub end : end_of g src p ≡ next
  pub fed : (line_left g src p).feeds ≡ feeds
  pub few : p.at + feeds ≤ next
  pub to : next ≤ length src
  pub on : p.at < length src → p.at < next

-- what stands next at a spot
abbrev pub ItemIs : Signs → List ℕ → Spot → Item → Type 0
ItemIs g src p (item.Mark m q) = Passes g src (m ∷ []) 0 p q × Marks p m q × Run g src (m ∷ []) 0 p q
ItemIs g src p (item.Join q) = Passes g src [] 1 p q × Joins g src 1 p q
ItemIs g src p (item.Hidden q) = Passes g src [] 0 p q × (q.mode ≡ in_comment) × (marks_left g src p ≡ [])
ItemIs g src p (item.End next feeds) = Ends g src p next feeds

-- An escape outside comments.
pub record EscapeAt (g : Signs) (src : List ℕ) (p : Spot) : Type 0 where
  pub inside : p.at < length src
  pub sign : get_or src p.at 0 ≡ g.escape
  pub no-feed : get_or src p.at 0 ≡ 10 → ⊥
  pub seen : p.mode ≡ in_comment → ⊥

-- ## The next mark

-- The next mark of the line, and the spot after it.
pub record MarkIs (g : Signs) (src : List ℕ) (p : Spot) (m : ℕ) (q : Spot) : Type 0 where
  pub marks : marks_left g src p ≡ m ∷ marks_left g src q
  pub step : Marks p m q
  pub feeds : ℕ
  pub run : Run g src (m ∷ []) feeds p q
  pub on : p.at < q.at
  pub to : q.at ≤ length src

-- the next mark, or that there is none
abbrev pub StepIs : Signs → List ℕ → Spot → Option (ℕ × Spot) → Type 0
StepIs g src p (Some (m, q)) = MarkIs g src p m q
StepIs g src p None = marks_left g src p ≡ []

-- ## The whole line

-- From a spot on: the place after the line, its LFs, and whether each of its bytes outside comments is text (refusal 2).
pub record LineIs (g : Signs) (src : List ℕ) (p : Spot) (r : LineEnd) : Type 0 where
  pub end : end_of g src p ≡ r.next
  pub feeds : (line_left g src p).feeds ≡ r.feeds
  pub text : every is_text (marks_left g src p) ≡ r.text
  pub few : p.at + r.feeds ≤ r.next
  pub to : r.next ≤ length src
  pub on : p.at < length src → p.at < r.next

-- ## Lines outside every category

-- a blank comes first
abbrev pub blank_first : List ℕ → Bool
blank_first [] = false
blank_first (m ∷ ms) = is_blank m

-- a line opens with the word w and a blank after it
unfoldable pub opens_with : List ℕ → List ℕ → Bool
opens_with w marks = begins w (without_blanks marks) && blank_first (drop (length w) (without_blanks marks))
