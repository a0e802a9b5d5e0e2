-- All lines of LC_COLLATE, from the line after the one that opens it: where they end, and that the paper's run goes on there.
use Rattle.std.specs.Prelude.{◌≡◌, true, false, List, [], ℕ, length, drop, replicate, eqb, Err, Ok, Result}
use Rattle.rules.specs.Text.{every, ◌unless◌, lower}
use Rattle.rules.specs.Tokens.{is_text}
use Rattle.rules.specs.State.{before_order, State, start}
use Rattle.rules.specs.Source.{lines_from}
use Rattle.base_units.specs.Numbers.{number_of}
use Rattle.text_lines.specs.declared.Signs.{Signs}
use Rattle.text_lines.specs.Stream.{marks_left, line_start}
use Rattle.locale_skips.specs.Passing.{Refuses}
use Rattle.work_store.specs.Store.{Roomy}
use Rattle.locale_sheet.specs.declared.Sheet.{Sheet}
use Rattle.locale_category.specs.Blocks.{Starts, Reached, GoesOut}
use Rattle.base_units.specs.declared.Refusal.{Refusal}

-- the sheet before the first line
abbrev pub first_sheet : Sheet
first_sheet = record {
  phase = before_order;
  toggles = 0;
  rules = 0;
  levels = 0;
  order = record { first = 0; last = 0; count = 0 };
  block = record { named = 0; last = 0; from = 0 };
}

-- the refusal of a line of elif, else or endif outside every chain
abbrev pub stray_refusal : Signs → List ℕ → ℕ → ℕ
stray_refusal g src at = lower (2 unless every is_text (marks_left g src (line_start at))) 3

-- The state right behind the line that opens LC_COLLATE, with these characters in force: nothing is declared yet.
pub record Begun (g : Signs) (s : State) : Type 0 where
  pub comment : s.chars.comment ≡ g.comment
  pub escape : s.chars.escape ≡ g.escape
  pub phase : s.place.phase ≡ before_order
  pub collated : s.place.collated ≡ true
  pub blocks : s.blocks ≡ start.blocks
  pub declared : s.declared ≡ start.declared
  pub ordered : s.ordered ≡ start.ordered

-- The work area is long enough and holds nothing, and a line may begin at the place.
pub record Ready (src w : List ℕ) (at number : ℕ) : Type 0 where
  pub roomy : Roomy (length src) w
  pub none : w ≡ replicate (length w) 0
  pub starts : Starts src at number

-- END LC_COLLATE is reached.
pub record ClosedAt (g : Signs) (src : List ℕ) (at number : ℕ) (w' : List ℕ) (sh : Sheet) (next n : ℕ) : Type 0 where
  pub reached : Reached src at next n
  pub behind : eqb sh.phase before_order ≡ false
  pub runs : (s : State) → Begun g s → GoesOut g src at number s w' sh [] next n

-- A line is refused, or END LC_COLLATE is missing.
pub record RefusedAt (g : Signs) (src : List ℕ) (at number r l : ℕ) : Type 0 where
  pub runs : (s : State) → Begun g s → Refuses (lines_from s number 0 (drop at src)) r l

abbrev pub CategoryIs : Signs → List ℕ → ℕ → ℕ → List ℕ → Result (Sheet × ℕ × ℕ) (Refusal × ℕ) → Type 0
CategoryIs g src at number w' (Ok (sh, next, n)) = ClosedAt g src at number w' sh next n
CategoryIs g src at number w' (Err (r, l)) = RefusedAt g src at number (number_of r) l
