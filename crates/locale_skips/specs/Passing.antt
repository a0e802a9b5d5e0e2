-- Runs of lines that are passed over (Rattle.rules.specs.Source), for every state of the paper in which they stand.
use Rattle.std.specs.Prelude.{◌≡◌, Bool, true, false, ◌||◌, List, ℕ, ◌+◌, ◌-◌, ◌≤◌, ◌<◌, length, drop, Err, Ok, Result}
use Rattle.rules.specs.Text.{bytes, is}
use Rattle.rules.specs.State.{between_categories, in_other_category, State, with_blocks, in_phase, to_phase, in_collate, gives}
use Rattle.rules.specs.Conditionals.{blocks, is_unused}
use Rattle.rules.specs.Source.{whole_line, line_outcome, Ended, lines_from}
use Rattle.base_units.specs.declared.Refusal.{Refusal}
use Rattle.base_units.specs.declared.Refusal.TheVariants.{Malformed}
use Rattle.base_units.specs.Numbers.{number_of}
use Rattle.text_lines.specs.declared.LineEnd.{LineEnd}
use Rattle.text_lines.specs.declared.Signs.{Signs}
use Rattle.text_lines.specs.Stream.{line_start, marks_left, LineIs}
use Rattle.text_reader.specs.Turns.{Reading}
use Rattle.text_tokens.specs.Left.{word_in}
use Rattle.locale_skips.specs.Words.{words_left, first_word, are_two}
use Rattle.locale_skips.specs.declared.Kind.{Kind}
use Rattle.locale_skips.specs.declared.Kind.TheVariants as kind
use Rattle.locale_skips.specs.declared.Turn.{Turn}
use Rattle.locale_skips.specs.declared.Turn.TheVariants as turn
use Rattle.locale_skips.specs.declared.Branch.{Branch}

-- ## The states

-- The next line stands in an unused branch, with no inner chain open; these characters are in force, and so many chains are open.
pub record Unused (g : Signs) (depth : ℕ) (s : State) : Type 0 where
  pub inside : in_collate s ≡ true
  pub unused : is_unused s ≡ true
  pub inner : s.blocks.inner ≡ 0
  pub comment : s.chars.comment ≡ g.comment
  pub escape : s.chars.escape ≡ g.escape
  pub chains : length s.blocks.chains ≡ depth

-- The next line stands in another category, which has this name; these characters are in force.
pub record InOther (g : Signs) (name : List ℕ) (s : State) : Type 0 where
  pub inside : in_phase in_other_category s ≡ true
  pub comment : s.chars.comment ≡ g.comment
  pub escape : s.chars.escape ≡ g.escape
  pub category : s.place.category ≡ name

-- ## What a reader is given

-- A line begins at a place, and each line before it has a byte at least.
pub record Begins (src : List ℕ) (at number : ℕ) : Type 0 where
  pub inside : at ≤ length src
  pub few : number ≤ at + 1

-- the word at a place
unfoldable pub name_at : Signs → List ℕ → ℕ → List ℕ
name_at g src at = word_in (marks_left g src (line_start at))

-- A word stands at a place, which may be the name of a category: it has 1 to 32 bytes.
pub record Named (g : Signs) (src : List ℕ) (at : ℕ) : Type 0 where
  pub inside : at ≤ length src
  pub some : 0 < length (name_at g src at)
  pub short : length (name_at g src at) ≤ 32

-- The lines are refused so.
pub record Refuses (e : Ended) (r l : ℕ) : Type 0 where
  pub refusal : e.refusal ≡ r
  pub line : e.line ≡ l

-- ## An unused branch

-- it opens an inner chain
abbrev pub opens : List ℕ → Bool
opens w = is w "ifdef" || is w "ifndef"

-- it begins another branch
abbrev pub branches : List ℕ → Bool
branches w = is w "elif" || is w "else"

-- it begins another branch of a chain, or closes the chain
abbrev pub turns : List ℕ → Bool
turns w = branches w || is w "endif"

-- what a line is, by its first word
abbrev pub KindIs : List ℕ → Kind → Type 0
KindIs w kind.Opens = opens w ≡ true
KindIs w kind.Closes = (opens w ≡ false) × (is w "endif" ≡ true)
KindIs w kind.Branches = (opens w ≡ false) × (is w "endif" ≡ false) × (branches w ≡ true)
KindIs w kind.Other = (opens w ≡ false) × (is w "endif" ≡ false) × (branches w ≡ false)

-- the state with inner chains open: `total` in all, where `depth` are without them
abbrev pub opened : ℕ → ℕ → State → State
opened depth total s = with_blocks s (blocks s.blocks.chains (total - depth) s.blocks.toggles)

-- The line is passed over.
pub record TurnOn (g : Signs) (src : List ℕ) (at depth total next : ℕ) : Type 0 where
  pub deep : depth ≤ next
  pub outcome : (s : State) → Unused g depth s → (n : ℕ)
      → line_outcome (opened depth total s) n (marks_left g src (line_start at)) ≡ gives 0 (opened depth next s)

-- The line at a place is one of the branch's own chain, which is read whole.
abbrev pub Own : Signs → List ℕ → ℕ → ℕ → Type 0
Own g src at depth =
    (s : State) → Unused g depth s → (n : ℕ)
    → line_outcome s n (marks_left g src (line_start at)) ≡ whole_line s n (marks_left g src (line_start at))

-- It is, with no inner chain open.
pub record TurnOwn (g : Signs) (src : List ℕ) (at depth total : ℕ) : Type 0 where
  pub none : total ≡ depth
  pub word : turns (first_word g src (line_start at)) ≡ true
  pub own : Own g src at depth

-- The line opens one chain more than may nest.
pub record TurnDeep (g : Signs) (src : List ℕ) (at depth total : ℕ) : Type 0 where
  pub outcome : (s : State) → Unused g depth s → (n : ℕ) → (line_outcome (opened depth total s) n (marks_left g src (line_start at))).refusal ≡ 7

abbrev pub TurnIs : Signs → List ℕ → ℕ → ℕ → ℕ → Turn → Type 0
TurnIs g src at depth total (turn.On next) = TurnOn g src at depth total next
TurnIs g src at depth total turn.Own = TurnOwn g src at depth total
TurnIs g src at depth total turn.Deep = TurnDeep g src at depth total

-- Up to a line of the branch's own chain, which is not read yet.
pub record BranchStops (g : Signs) (src : List ℕ) (at number depth next n : ℕ) : Type 0 where
  pub from : at ≤ next
  pub inside : next < length src
  pub few : n ≤ next + 1
  pub run : (s : State) → Unused g depth s → lines_from s number 0 (drop at src) ≡ lines_from s n 0 (drop next src)
  pub word : turns (first_word g src (line_start next)) ≡ true
  pub own : Own g src next depth

-- There is none: inner chains nest too deep, or the source ends.
pub record BranchRefused (g : Signs) (src : List ℕ) (at number depth r l : ℕ) : Type 0 where
  pub run : (s : State) → Unused g depth s → Refuses (lines_from s number 0 (drop at src)) r l

abbrev pub BranchIs : Signs → List ℕ → ℕ → ℕ → ℕ → Result (ℕ × ℕ) (Refusal × ℕ) → Type 0
BranchIs g src at number depth (Ok (next, n)) = BranchStops g src at number depth next n
BranchIs g src at number depth (Err (r, l)) = BranchRefused g src at number depth (number_of r) l

-- From the place `at` to i only lines of the branch are passed, with no inner chain open at first, and then `total` chains in all.
pub record InBranch (g : Signs) (src : List ℕ) (at number depth i n total : ℕ) : Type 0 where
  pub from : at ≤ i
  pub to : i ≤ length src
  pub few : n ≤ i + 1
  pub deep : depth ≤ total
  pub run : (s : State) → Unused g depth s → lines_from s number 0 (drop at src) ≡ lines_from (opened depth total s) n 0 (drop i src)

-- A reading that began with the state s has come to a place with the state t: only lines of the branch are passed, and the source would end too early.
pub record BranchStands (src : List ℕ) (s t : Branch) (i n : ℕ) : Type 0 where
  pub signs : t.signs ≡ s.signs
  pub depth : t.depth ≡ s.depth
  pub answer : t.answer ≡ Err (Malformed, n)
  pub passed : InBranch s.signs src s.next s.number s.depth i n t.total

abbrev pub branch_reading : Reading Branch
branch_reading = record {
  over = λ t. t.over;
  next = λ t. t.next;
  number = λ t. t.number;
  Stands = BranchStands;
  Says = λ src s t. BranchIs s.signs src s.next s.number s.depth t.answer;
}

-- ## Another category

-- the words of the line at a place are `END` and the name
unfoldable pub is_end : Signs → List ℕ → ℕ → List ℕ → Bool
is_end g src at name = are_two (words_left g src (line_start at)) (bytes "END") name

-- From the place `at` to i no END line of the category is passed.
pub record InCategory (g : Signs) (src : List ℕ) (at number : ℕ) (name : List ℕ) (i n : ℕ) : Type 0 where
  pub from : at ≤ i
  pub to : i ≤ length src
  pub few : n ≤ i + 1
  pub run : (s : State) → InOther g name s → lines_from s number 0 (drop at src) ≡ lines_from s n 0 (drop i src)

-- There it stands, or the source ends.
pub record Reaches (g : Signs) (src : List ℕ) (at number : ℕ) (name : List ℕ) (i n : ℕ) : Type 0 where
  pub passed : InCategory g src at number name i n
  pub stands : i < length src → is_end g src i name ≡ true

-- A line stands at the place: the place after it, and the number of the line there.
pub record Passed (g : Signs) (src : List ℕ) (at number next n : ℕ) : Type 0 where
  pub inside : at < length src
  pub end : LineEnd
  pub line : LineIs g src (line_start at) end
  pub place : next ≡ end.next
  pub lines : n ≡ number + end.feeds

-- None does.
pub record Missing (src : List ℕ) (at number r l : ℕ) : Type 0 where
  pub outside : length src ≤ at
  pub three : r ≡ 3
  pub line : l ≡ number

abbrev pub AfterIs : Signs → List ℕ → ℕ → ℕ → Result (ℕ × ℕ) (Refusal × ℕ) → Type 0
AfterIs g src at number (Ok (next, n)) = Passed g src at number next n
AfterIs g src at number (Err (r, l)) = Missing src at number (number_of r) l

-- Up to the line after its END line.
pub record CategoryStops (g : Signs) (src : List ℕ) (at number : ℕ) (name : List ℕ) (next n : ℕ) : Type 0 where
  pub from : at ≤ next
  pub to : next ≤ length src
  pub few : n ≤ next + 1
  pub run : (s : State) → InOther g name s → lines_from s number 0 (drop at src) ≡ lines_from (to_phase s between_categories) n 0 (drop next src)

-- It does not end.
pub record CategoryRefused (g : Signs) (src : List ℕ) (at number : ℕ) (name : List ℕ) (r l : ℕ) : Type 0 where
  pub run : (s : State) → InOther g name s → Refuses (lines_from s number 0 (drop at src)) r l

abbrev pub CategoryIs : Signs → List ℕ → ℕ → ℕ → List ℕ → Result (ℕ × ℕ) (Refusal × ℕ) → Type 0
CategoryIs g src at number name (Ok (next, n)) = CategoryStops g src at number name next n
CategoryIs g src at number name (Err (r, l)) = CategoryRefused g src at number name (number_of r) l
