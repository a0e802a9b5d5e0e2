-- The conditional lines in LC_COLLATE as steps of the reader: what their functions are given.
use Rattle.std.specs.Prelude.{Bool, true, false, not, List, ℕ, if◌then◌else◌}
use Rattle.rules.specs.Text.{bytes}
use Rattle.text_lines.specs.declared.Signs.{Signs}
use Rattle.text_lines.specs.declared.Spot.{Spot}
use Rattle.text_lines.specs.declared.LineEnd.{LineEnd}
use Rattle.locale_toggle.specs.declared.Set.{Set}
use Rattle.locale_toggle.specs.declared.Set.TheVariants as set
use Rattle.locale_sheet.specs.declared.Sheet.{Sheet}
use Rattle.locale_sheet.specs.Sheets.{SomeOpen}
use Rattle.locale_sheet.specs.Words.{WordLine}

-- ## define and undef, ifdef and ifndef

-- define, or undef
abbrev pub defining : Bool → List ℕ
defining true = bytes "define"
defining false = bytes "undef"

-- what they do to the toggle
abbrev pub set_for : Bool → Set
set_for true = set.On
set_for false = set.Off

-- ifdef, or ifndef
abbrev pub testing : Bool → List ℕ
testing true = bytes "ifdef"
testing false = bytes "ifndef"

-- whether their test holds for a toggle
abbrev pub holds_for : Bool → Bool → Bool
holds_for wanted on = if wanted then on else not on

-- the sheet with so many toggles named
abbrev pub with_toggles : Sheet → ℕ → Sheet
with_toggles sh m = record { phase = sh.phase; toggles = m; rules = sh.rules; levels = sh.levels; order = sh.order; block = sh.block }

-- A line that opens with the word w, while some state is held.
pub record MayRead (g : Signs) (src work : List ℕ) (sh : Sheet) (at depth : ℕ) (p : Spot) (e : LineEnd) (w : List ℕ) : Type 0 where
  pub some : SomeOpen g src work sh at depth
  pub line : WordLine g src at p e w
