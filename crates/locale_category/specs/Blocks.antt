-- The lines of a block and of a chain: where they end, and that the paper's run goes on there with the state that is held.
use Rattle.std.specs.Prelude.{◌≡◌, Bool, true, false, List, ◌∷◌, ℕ, ◌+◌, ◌≤◌, ◌<◌, length, drop, eqb, Err, Ok, Result}
use Rattle.rules.specs.State.{before_order, between_categories, Chain, State, to_phase}
use Rattle.rules.specs.Conditionals.{chain}
use Rattle.rules.specs.Source.{whole_line, line_outcome, lines_from}
use Rattle.base_units.specs.Numbers.{number_of}
use Rattle.text_lines.specs.declared.Signs.{Signs}
use Rattle.text_lines.specs.Stream.{marks_left, line_start}
use Rattle.locale_skips.specs.Passing.{Refuses}
use Rattle.locale_sheet.specs.declared.Sheet.{Sheet}
use Rattle.locale_sheet.specs.Sheets.{Open, SomeOpen, is_used, Every}
use Rattle.locale_sheet.specs.Words.{TurnLine}
use Rattle.locale_category.specs.declared.Read.{Read}
use Rattle.locale_category.specs.declared.Read.TheVariants as read
use Rattle.base_units.specs.declared.Refusal.{Refusal}

-- The next line would begin at a place, with this number.
pub record Starts (src : List ℕ) (at number : ℕ) : Type 0 where
  pub inside : at ≤ length src
  pub few : number ≤ at + 1

-- A place that is reached, and the number of the line there.
pub record Reached (src : List ℕ) (at next n : ℕ) : Type 0 where
  pub from : at ≤ next
  pub to : next ≤ length src
  pub few : n ≤ next + 1

-- The run of the paper goes on there, with the state that is held; the two characters stay.
pub record GoesOn (g : Signs) (src : List ℕ) (at number : ℕ) (s : State) (w' : List ℕ) (sh' : Sheet) (cs' : List Chain) (next n : ℕ) : Type 0 where
  pub after : State
  pub run : lines_from s number 0 (drop at src) ≡ lines_from after n 0 (drop next src)
  pub held : Open g src w' sh' cs' next after
  pub chars : after.chars ≡ s.chars

-- The same behind END LC_COLLATE, which stands at some place.
pub record GoesOut (g : Signs) (src : List ℕ) (at number : ℕ) (s : State) (w' : List ℕ) (sh' : Sheet) (cs' : List Chain) (next n : ℕ) : Type 0 where
  pub after : State
  pub place : ℕ
  pub run : lines_from s number 0 (drop at src) ≡ lines_from (to_phase after between_categories) n 0 (drop next src)
  pub held : Open g src w' sh' cs' place after
  pub chars : after.chars ≡ s.chars

-- Some state is held, with so many chains open and the present branch used.
pub record SomeUsed (g : Signs) (src w : List ℕ) (sh : Sheet) (at depth : ℕ) : Type 0 where
  pub some : SomeOpen g src w sh at depth
  pub used : is_used some.chains ≡ true

-- ## A block

pub record BranchRead (g : Signs) (src w : List ℕ) (sh : Sheet) (at number depth : ℕ) (w' : List ℕ) (sh' : Sheet) (next n : ℕ) : Type 0 where
  pub reached : Reached src at next n
  pub inside : next < length src
  pub own : TurnLine g src next
  pub runs : Every g src w sh at depth (λ (cs : List Chain) (s : State). GoesOn g src at number s w' sh' cs next n)

pub record ClosedRead (g : Signs) (src w : List ℕ) (sh : Sheet) (at number depth : ℕ) (w' : List ℕ) (sh' : Sheet) (next n : ℕ) : Type 0 where
  pub reached : Reached src at next n
  pub outside : depth ≡ 0
  pub behind : eqb sh'.phase before_order ≡ false
  pub runs : Every g src w sh at depth (λ (cs : List Chain) (s : State). GoesOut g src at number s w' sh' cs next n)

pub record RefusedRead (g : Signs) (src w : List ℕ) (sh : Sheet) (at number depth r l : ℕ) : Type 0 where
  pub runs : Every g src w sh at depth (λ (cs : List Chain) (s : State). Refuses (lines_from s number 0 (drop at src)) r l)

abbrev pub ReadIs : Signs → List ℕ → List ℕ → Sheet → ℕ → ℕ → ℕ → List ℕ → Result Read (Refusal × ℕ) → Type 0
ReadIs g src w sh at number depth w' (Ok (read.Branch sh' next n)) = BranchRead g src w sh at number depth w' sh' next n
ReadIs g src w sh at number depth w' (Ok (read.Closed sh' next n)) = ClosedRead g src w sh at number depth w' sh' next n
ReadIs g src w sh at number depth w' (Err (r, l)) = RefusedRead g src w sh at number depth (number_of r) l

-- ## A chain

-- Of every state that is held with such a chain open, whatever its present branch, and so many around it.
abbrev pub EveryIn : Signs → List ℕ → List ℕ → Sheet → ℕ → ℕ → Bool → Bool → Bool → (List Chain → State → Type 0) → Type 0
EveryIn g src w sh at depth taken used closed P =
    (cs : List Chain) (s : State) → Open g src w sh (chain taken used closed ∷ cs) at s → length cs ≡ depth → P cs s

-- Some state is held with a chain open, in a branch of it that is used or not.
pub record InBranch (g : Signs) (src w : List ℕ) (sh : Sheet) (at number depth : ℕ) (used : Bool) : Type 0 where
  pub starts : Starts src at number
  pub taken : Bool
  pub closed : Bool
  pub chains : List Chain
  pub state : State
  pub held : Open g src w sh (chain taken used closed ∷ chains) at state
  pub deep : length chains ≡ depth
  pub shallow : depth < 8
  pub room : length src + 64 ≤ length w
  pub short : length src ≤ 1048576

-- Where the branch ends.
pub record EndedAt (g : Signs) (src w : List ℕ) (sh : Sheet) (at number depth : ℕ) (used : Bool) (w' : List ℕ) (sh' : Sheet) (next n : ℕ) : Type 0 where
  pub reached : Reached src at next n
  pub inside : next < length src
  pub own : TurnLine g src next
  pub runs : (taken closed : Bool) → EveryIn g src w sh at depth taken used closed (λ (cs : List Chain) (s : State). GoesOn g src at number s w' sh' (chain taken used closed ∷ cs) next n)
  pub whole : (taken closed : Bool) → EveryIn g src w' sh' next depth taken used closed (λ (cs : List Chain) (s : State).
      (m : ℕ) → line_outcome s m (marks_left g src (line_start next)) ≡ whole_line s m (marks_left g src (line_start next)))

pub record EndRefused (g : Signs) (src w : List ℕ) (sh : Sheet) (at number depth : ℕ) (used : Bool) (r l : ℕ) : Type 0 where
  pub runs : (taken closed : Bool) → EveryIn g src w sh at depth taken used closed (λ (cs : List Chain) (s : State). Refuses (lines_from s number 0 (drop at src)) r l)

abbrev pub EndedIs : Signs → List ℕ → List ℕ → Sheet → ℕ → ℕ → ℕ → Bool → List ℕ → Result (Sheet × ℕ × ℕ) (Refusal × ℕ) → Type 0
EndedIs g src w sh at number depth used w' (Ok (sh', next, n)) = EndedAt g src w sh at number depth used w' sh' next n
EndedIs g src w sh at number depth used w' (Err (r, l)) = EndRefused g src w sh at number depth used (number_of r) l

-- Some state is held with a chain just opened.
pub record ChainBegins (g : Signs) (src w : List ℕ) (sh : Sheet) (at number depth : ℕ) (holds : Bool) : Type 0 where
  pub starts : Starts src at number
  pub chains : List Chain
  pub state : State
  pub held : Open g src w sh (chain holds holds false ∷ chains) at state
  pub deep : length chains ≡ depth
  pub shallow : depth < 8
  pub room : length src + 64 ≤ length w
  pub short : length src ≤ 1048576

pub record ChainNext (g : Signs) (src w : List ℕ) (sh : Sheet) (at number depth : ℕ) (holds : Bool) (w' : List ℕ) (sh' : Sheet) (next n : ℕ) : Type 0 where
  pub reached : Reached src at next n
  pub runs : EveryIn g src w sh at depth holds holds false (λ (cs : List Chain) (s : State). GoesOn g src at number s w' sh' cs next n)

pub record ChainRefused (g : Signs) (src w : List ℕ) (sh : Sheet) (at number depth : ℕ) (holds : Bool) (r l : ℕ) : Type 0 where
  pub runs : EveryIn g src w sh at depth holds holds false (λ (cs : List Chain) (s : State). Refuses (lines_from s number 0 (drop at src)) r l)

abbrev pub ChainedIs : Signs → List ℕ → List ℕ → Sheet → ℕ → ℕ → ℕ → Bool → List ℕ → Result (Sheet × ℕ × ℕ) (Refusal × ℕ) → Type 0
ChainedIs g src w sh at number depth holds w' (Ok (sh', next, n)) = ChainNext g src w sh at number depth holds w' sh' next n
ChainedIs g src w sh at number depth holds w' (Err (r, l)) = ChainRefused g src w sh at number depth holds (number_of r) l
