-- What is known after the last line, and what the answer is then (Rattle.rules.specs.Compile). No public contract cites this file.
use Rattle.std.specs.Prelude.{◌≡◌, Bool, List, ℕ, ◌≤◌, length, eqb, Result}
use Rattle.rules.specs.Tokens.{operands}
use Rattle.rules.specs.State.{State, start}
use Rattle.rules.specs.Compile.{finish}
use Rattle.rules.specs.Source.{ended, lines_from}
use Rattle.rules.specs.Calls.{cleared, compiled_as}
use Rattle.text_lines.specs.declared.Signs.{Signs}
use Rattle.text_tokens.specs.Left.{tokens_left}
use Rattle.work_rows.specs.Cells.{cell}
use Rattle.work_store.specs.Store.{undefined_mark}
use Rattle.work_order.specs.Links.{place_number}
use Rattle.locale_levels.specs.Levels.{start_refusal}
use Rattle.locale_sheet.specs.Known.{behind}
use Rattle.locale_sheet.specs.declared.Sheet.{Sheet}
use Rattle.locale_sheet.specs.Sheets.{rules_at}
use Rattle.table_items.specs.Items.{LinesReady}
use Rattle.table_items.proofs.MeaningLaws.{Meant}
use Rattle.table_whole.specs.Building.{table_size}
use Rattle.locale_compile.specs.Answers.{told_as}
use Rattle.base_units.specs.declared.Refusal.{Refusal}

-- The answer and the table area afterwards are those of the paper, where the work area is cleared in the end.
pub record AnswerIs (src area after : List ℕ) (r : Result ℕ (Refusal × ℕ)) : Type 0 where
  pub is : (work : List ℕ) → told_as r after (cleared work) ≡ compiled_as (finish (length area) (lines_from start 1 0 src)) area work

-- Each order line has its rank: the area holds what the lines of the source have left.
pub record RanksGiven (src w : List ℕ) (g : Signs) (sh : Sheet) : Type 0 where
  pub last : State
  pub run : lines_from start 1 0 src ≡ ended 0 0 last
  pub meant : Meant g src w sh.order sh.levels last.ordered.rules last.declared last.ordered.lines
  pub ready : LinesReady g src w sh.order sh.levels
  pub rules : last.ordered.rules ≡ rules_at g src sh.rules
  pub started : start_refusal (operands (tokens_left g src (behind sh.rules))) ≡ 0
  pub within : sh.rules ≤ length src
  pub few : sh.levels ≤ 8

-- Its size is so many numbers, for which the area has room; UNDEFINED is supplied where it has no order line.
pub record TableFits (src w : List ℕ) (sh : Sheet) (items weights : ℕ) (supplied : Bool) (size : ℕ) (area : List ℕ) : Type 0 where
  pub flag : supplied ≡ eqb (cell w (undefined_mark (length src)) place_number) 0
  pub size_is : size ≡ table_size sh.levels items weights supplied
  pub room : size ≤ length area
