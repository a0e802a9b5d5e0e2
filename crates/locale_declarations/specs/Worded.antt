-- A line in LC_COLLATE that opens with a word, as the functions of its keyword find it, and what such a function does: a step of the reader
-- (Rattle.locale_sheet.specs.Sheets), whatever is held.
use Rattle.std.specs.Prelude.{◌≡◌, Bool, true, ◌&&◌, List, ℕ, Result}
use Prim.Native.String.{String}
use Rattle.rules.specs.Text.{bytes, is}
use Rattle.rules.specs.Tokens.{word, Token, token_at, single, tokens_refusal}
use Rattle.text_lines.specs.declared.Signs.{Signs}
use Rattle.text_lines.specs.declared.Spot.{Spot}
use Rattle.text_lines.specs.declared.LineEnd.{LineEnd}
use Rattle.text_lines.specs.Stream.{end_of}
use Rattle.locale_sheet.specs.declared.Sheet.{Sheet}
use Rattle.locale_sheet.specs.declared.Step.{Step}
use Rattle.locale_sheet.specs.Sheets.{StepIs}
use Rattle.locale_sheet.specs.Words.{WordLine}
use Rattle.base_units.specs.declared.Refusal.{Refusal}

-- ## The line

-- It opens with this keyword, and goes on from the spot p to its end.
pub record Opened (g : Signs) (src : List ℕ) (at : ℕ) (p : Spot) (e : LineEnd) (keyword : String) : Type 0 where
  pub first : WordLine g src at p e (bytes keyword)
  pub end : end_of g src p ≡ e.next

-- ## What it does

-- A step at a depth that leaves the area as it is, whatever that holds and whatever number the line has.
pub record StillAt (g : Signs) (src : List ℕ) (sh : Sheet) (at depth : ℕ) (r : Result Step Refusal) : Type 0 where
  pub is : (w : List ℕ) (number : ℕ) → StepIs g src w sh at number depth w r

-- The same at every depth.
pub record Still (g : Signs) (src : List ℕ) (sh : Sheet) (at : ℕ) (r : Result Step Refusal) : Type 0 where
  pub is : (depth : ℕ) → StillAt g src sh at depth r

-- A step that leaves the area w', at every depth and whatever number the line has.
pub record Writes (g : Signs) (src w : List ℕ) (sh : Sheet) (at : ℕ) (w' : List ℕ) (r : Result Step Refusal) : Type 0 where
  pub is : (number depth : ℕ) → StepIs g src w sh at number depth w' r

-- ## END

-- Whether these operands are the one word LC_COLLATE; then none is refused.
pub record CollateIs (os : List Token) (r : Bool) : Type 0 where
  pub same : r ≡ (single word os && is (token_at os 0).text "LC_COLLATE")
  pub whole : r ≡ true → tokens_refusal os ≡ 0
