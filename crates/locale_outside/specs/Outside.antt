-- One line of a locale source outside every category: what the paper makes of it (Rattle.rules.specs.Source), for every state in which the
-- line may stand.
use Rattle.std.specs.Prelude.{◌≡◌, Option, Some, None, Bool, true, false, ◌&&◌, ◌||◌, List, [], ℕ, ◌+◌, ◌≤◌, ◌<◌, length, drop, if◌then◌else◌, Err, Ok, Result}
use Rattle.rules.specs.Text.{bytes, within, every, is, begins}
use Rattle.rules.specs.Lines.{line_of}
use Rattle.rules.specs.State.{before_categories, in_other_category, before_order, State, with_chars, with_place, in_phase, is_outside, gives}
use Rattle.rules.specs.Source.{is_capital, line_outcome, signs}
use Rattle.base_units.specs.Numbers.{number_of}
use Rattle.text_lines.specs.declared.Signs.{Signs}
use Rattle.text_lines.specs.declared.Spot.{Spot}
use Rattle.text_lines.specs.declared.LineEnd.{LineEnd}
use Rattle.text_lines.specs.Stream.{outside_signs, line_left, line_start, marks_left, LineIs}
use Rattle.text_tokens.specs.Left.{word_in, after_word, Skips, only_blanks, NoneTaken}
use Rattle.text_specials.specs.declared.Chars.{Chars}
use Rattle.text_specials.specs.Force.{chars_as}
use Rattle.text_specials.specs.Signed.{Visible, TakenIs}
use Rattle.locale_outside.specs.declared.Outer.{Outer}
use Rattle.locale_outside.specs.declared.Outer.TheVariants.{Blank, Signed, Opened}
use Rattle.base_units.specs.declared.Refusal.{Refusal}

-- ## Words and what follows them

-- "`LC_` plus 1 to 29 capitals or underscores"
unfoldable pub is_category : List ℕ → Bool
is_category w = begins (bytes "LC_") w && within 4 32 (length w) && every is_capital w

-- how many bytes a word of capitals and underscores has; None for any other
unfoldable pub capitals_in : List ℕ → Option ℕ
capitals_in w = if every is_capital w then Some (length w) else None

-- Whether the word at a spot is a category's and stands alone.
pub record AloneIs (g : Signs) (src : List ℕ) (p : Spot) (r : Bool) : Type 0 where
  pub alone : r ≡ (only_blanks (after_word (marks_left g src p)) && is_category (word_in (marks_left g src p)))
  pub dead : NoneTaken (after_word (marks_left g src p))

-- ## The states

-- the two characters as a line is read with them
abbrev pub signs_of : Chars → Signs
signs_of h = record { comment = h.comment; escape = h.escape }

-- A state in which the line may stand: outside every category, with these two characters in force; whether no category has stood, and
-- whether LC_COLLATE has.
pub record Stands (h : Chars) (first had : Bool) (s : State) : Type 0 where
  pub outside : is_outside s ≡ true
  pub chars : s.chars ≡ chars_as h
  pub before : in_phase before_categories s ≡ first
  pub collated : s.place.collated ≡ had
  pub chains : s.blocks.chains ≡ []

-- ## What the line leaves

-- The line at a place leaves the state t; the place after it, and its LFs.
pub record Leaves (s : State) (number : ℕ) (src : List ℕ) (at next k : ℕ) (t : State) : Type 0 where
  pub outcome : line_outcome s number (line_of (signs s) (drop at src)).marks ≡ gives 0 t
  pub end : at + (line_of (signs s) (drop at src)).size ≡ next
  pub feeds : (line_of (signs s) (drop at src)).feeds ≡ k

-- So it does in every state in which it may stand, by one change.
pub record Changes (h : Chars) (before collated : Bool) (src : List ℕ) (at next feeds : ℕ) (change : State → State) : Type 0 where
  pub leaves : (s : State) (number : ℕ) → Stands h before collated s → Leaves s number src at next feeds (change s)
  pub on : at < next
  pub to : next ≤ length src
  pub few : at + feeds ≤ next

-- the word at a place where a line's first token begins
abbrev pub word_there : Chars → List ℕ → ℕ → List ℕ
word_there h src at = word_in (marks_left (signs_of h) src (line_start at))

-- the state in a category
abbrev pub opened_by : Bool → List ℕ → State → State
opened_by collate w s =
    with_place s (record { phase = if collate then before_order else in_other_category; category = w; collated = collate || s.place.collated })

-- A category is opened by the word at a place.
pub record OpenedAt (h : Chars) (before collated : Bool) (src : List ℕ) (at : ℕ) (collate : Bool) (word next feeds : ℕ) : Type 0 where
  pub line : Changes h before collated src at next feeds (opened_by collate (word_there h src word))
  pub is-collate : collate ≡ is (word_there h src word) "LC_COLLATE"
  pub once : (collate && collated) ≡ false
  pub long : 4 ≤ length (word_there h src word)
  pub short : length (word_there h src word) ≤ 32
  pub from : at ≤ word
  pub inside : word ≤ length src

-- One of the two characters is set.
pub record SignedBy (h : Chars) (before collated : Bool) (src : List ℕ) (at : ℕ) (c : Chars) (next feeds : ℕ) : Type 0 where
  pub line : Changes h before collated src at next feeds (λ (s : State). with_chars s (chars_as c))
  pub visible : Visible (signs_of c)

-- The line is refused, in every state in which it may stand.
pub record RefusedWith (h : Chars) (before collated : Bool) (src : List ℕ) (at n : ℕ) : Type 0 where
  pub refusal : (s : State) (number : ℕ) → Stands h before collated s → (line_outcome s number (line_of (signs s) (drop at src)).marks).refusal ≡ n

-- what a line outside every category is
abbrev pub OuterIs : Chars → Bool → Bool → List ℕ → ℕ → Result Outer Refusal → Type 0
OuterIs h before collated src at (Ok (Blank next feeds)) = Changes h before collated src at next feeds (λ (s : State). s)
OuterIs h before collated src at (Ok (Signed c next feeds)) = SignedBy h before collated src at c next feeds
OuterIs h before collated src at (Ok (Opened collate word next feeds)) = OpenedAt h before collated src at collate word next feeds
OuterIs h before collated src at (Err r) = RefusedWith h before collated src at (number_of r)

-- whether a category has stood or not
abbrev pub PlainOuter : Chars → Bool → List ℕ → ℕ → Result Outer Refusal → Type 0
PlainOuter h collated src at r = (before : Bool) → OuterIs h before collated src at r

-- whether LC_COLLATE has stood or not
abbrev pub TakenOuter : Chars → Bool → List ℕ → ℕ → Result Outer Refusal → Type 0
TakenOuter h before src at r = (collated : Bool) → OuterIs h before collated src at r

-- ## Where the readers begin

-- A line in which no byte is taken as it stands.
pub record PlainAt (h : Chars) (src : List ℕ) (at : ℕ) : Type 0 where
  pub inside : at < length src
  pub line : line_of (outside_signs (signs_of h)) (drop at src) ≡ line_left (signs_of h) src (line_start at)

-- A line that sets one of the two characters to the byte c.
pub record TakenAt (h : Chars) (src : List ℕ) (at : ℕ) (comment : Bool) (c k : ℕ) (rest : Spot) : Type 0 where
  pub inside : at < length src
  pub visible : Visible (signs_of h)
  pub taken : TakenIs (signs_of h) src at comment c k rest

-- A category's word that stands alone in a line of text, at the spot after the blanks that open it.
pub record CategoryAt (h : Chars) (src : List ℕ) (at : ℕ) (q : Spot) (e : LineEnd) : Type 0 where
  pub plain : PlainAt h src at
  pub skips : Skips (signs_of h) src (line_start at) q
  pub end : LineIs (signs_of h) src (line_start at) e
  pub text : e.text ≡ true
  pub alone : only_blanks (after_word (marks_left (signs_of h) src q)) ≡ true
  pub category : is_category (word_in (marks_left (signs_of h) src q)) ≡ true
