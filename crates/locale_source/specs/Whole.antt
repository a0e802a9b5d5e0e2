-- All lines of a locale source, as the paper runs over them (Rattle.rules.specs.Source).
use Rattle.std.specs.Prelude.{◌≡◌, true, false, List, [], ℕ, length, drop, replicate, eqb, Err, Ok, Result}
use Rattle.rules.specs.State.{before_order, State, start}
use Rattle.rules.specs.Source.{ended, lines_from}
use Rattle.base_units.specs.Numbers.{number_of}
use Rattle.text_lines.specs.declared.Signs.{Signs}
use Rattle.text_specials.specs.declared.Chars.{Chars}
use Rattle.locale_outside.specs.Outside.{signs_of, Stands}
use Rattle.locale_outside.specs.Stretches.{Keeps, collated_by}
use Rattle.locale_skips.specs.Passing.{Refuses}
use Rattle.work_store.specs.Store.{Roomy}
use Rattle.locale_sheet.specs.declared.Sheet.{Sheet}
use Rattle.locale_sheet.specs.Sheets.{Open}
use Rattle.base_units.specs.declared.Refusal.{Refusal}

-- The work area is long enough and holds nothing.
pub record Empty (src w : List ℕ) : Type 0 where
  pub roomy : Roomy (length src) w
  pub none : w ≡ replicate (length w) 0

-- No line is refused: what the lines of LC_COLLATE have declared and ordered is held, and is what stands at the end.
pub record WholeSource (src w' : List ℕ) (g : Signs) (sh : Sheet) : Type 0 where
  pub place : ℕ
  pub after : State
  pub held : Open g src w' sh [] place after
  pub behind : eqb sh.phase before_order ≡ false
  pub last : State
  pub run : lines_from start 1 0 src ≡ ended 0 0 last
  pub declared : last.declared ≡ after.declared
  pub ordered : last.ordered ≡ after.ordered

-- A line is refused, or something is missing at the end.
pub record RefusedSource (src : List ℕ) (r l : ℕ) : Type 0 where
  pub run : Refuses (lines_from start 1 0 src) r l

abbrev pub SourceIs : List ℕ → List ℕ → Result (Signs × Sheet) (Refusal × ℕ) → Type 0
SourceIs src w' (Ok (g, sh)) = WholeSource src w' g sh
SourceIs src w' (Err (r, l)) = RefusedSource src (number_of r) l

-- ## The lines after LC_COLLATE

-- From a state on no line is refused, and the source ends with what was declared and ordered.
pub record EndsFrom (s : State) (src : List ℕ) (at number : ℕ) : Type 0 where
  pub last : State
  pub run : lines_from s number 0 (drop at src) ≡ ended 0 0 last
  pub keeps : Keeps s last

-- So it is from every state between categories, LC_COLLATE being one of them; the two characters and the sheet are those that were given.
pub record EndsAfter (c : Chars) (src : List ℕ) (sh : Sheet) (at number : ℕ) (g : Signs) (x : Sheet) : Type 0 where
  pub signs : g ≡ signs_of c
  pub sheet : x ≡ sh
  pub ends : (s : State) → Stands c false true s → EndsFrom s src at number

-- A line is refused.
pub record RefusedAfter (c : Chars) (src : List ℕ) (at number r l : ℕ) : Type 0 where
  pub run : (s : State) → Stands c false true s → Refuses (lines_from s number 0 (drop at src)) r l

abbrev pub AfterIs : Chars → List ℕ → Sheet → ℕ → ℕ → Result (Signs × Sheet) (Refusal × ℕ) → Type 0
AfterIs c src sh at number (Ok (g, x)) = EndsAfter c src sh at number g x
AfterIs c src sh at number (Err (r, l)) = RefusedAfter c src at number (number_of r) l

-- ## The lines from the one after LC_COLLATE on

-- No line is refused.
pub record WholeInside (c : Chars) (src : List ℕ) (at number : ℕ) (w' : List ℕ) (g : Signs) (sh : Sheet) : Type 0 where
  pub place : ℕ
  pub after : State
  pub held : Open g src w' sh [] place after
  pub behind : eqb sh.phase before_order ≡ false
  pub last : State
  pub run : lines_from (collated_by c start) number 0 (drop at src) ≡ ended 0 0 last
  pub declared : last.declared ≡ after.declared
  pub ordered : last.ordered ≡ after.ordered

-- A line is refused, or something is missing at the end.
pub record RefusedInside (c : Chars) (src : List ℕ) (at number r l : ℕ) : Type 0 where
  pub run : Refuses (lines_from (collated_by c start) number 0 (drop at src)) r l

abbrev pub InsideIs : Chars → List ℕ → ℕ → ℕ → List ℕ → Result (Signs × Sheet) (Refusal × ℕ) → Type 0
InsideIs c src at number w' (Ok (g, sh)) = WholeInside c src at number w' g sh
InsideIs c src at number w' (Err (r, l)) = RefusedInside c src at number (number_of r) l
