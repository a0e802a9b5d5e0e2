-- What the dispatcher is given: a line of LC_COLLATE, while some state is held; and one whose beginning is read.
use Rattle.std.specs.Prelude.{List, ℕ, ◌+◌, ◌≤◌, ◌<◌, length}
use Rattle.text_lines.specs.declared.Signs.{Signs}
use Rattle.text_lines.specs.declared.Spot.{Spot}
use Rattle.text_lines.specs.declared.LineEnd.{LineEnd}
use Rattle.text_tokens.specs.declared.Tok.{Tok}
use Rattle.locale_opening.specs.Begun as begun
use Rattle.locale_sheet.specs.declared.Sheet.{Sheet}
use Rattle.locale_sheet.specs.Sheets.{SomeOpen}

-- A line, while some state is held.
pub record LineAt (g : Signs) (src w : List ℕ) (sh : Sheet) (at number depth : ℕ) : Type 0 where
  pub some : SomeOpen g src w sh at depth
  pub inside : at < length src
  pub few : number ≤ at + 1

-- It opens with a word.
pub record WordAt (g : Signs) (src w : List ℕ) (sh : Sheet) (at number depth : ℕ) (q : Spot) (t : Tok) (e : LineEnd) : Type 0 where
  pub line : LineAt g src w sh at number depth
  pub word : begun.WordLine g src at q t e
