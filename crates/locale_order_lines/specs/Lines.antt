-- What is known of a line in LC_COLLATE that is an order line, and what it is read as.
use Rattle.std.specs.Prelude.{◌≡◌, true, List, ℕ, ◌≤◌}
use Rattle.rules.specs.Tokens.{tokens_refusal}
use Rattle.rules.specs.State.{Subject, Chain, State, gives}
use Rattle.rules.specs.OrderLines.{order_line}
use Rattle.text_lines.specs.declared.Signs.{Signs}
use Rattle.text_lines.specs.declared.Spot.{Spot}
use Rattle.locale_sheet.specs.declared.Sheet.{Sheet}
use Rattle.locale_sheet.specs.Sheets.{Open, is_used, outcome_of}
use Rattle.locale_sheet.specs.Names.{operands_from}

-- The line at a place is the order line of the subject x, with the operands after the spot p; r is its refusal.
pub record Reads (g : Signs) (src w : List ℕ) (sh : Sheet) (at number : ℕ) (x : Subject) (p : Spot) (r : ℕ) : Type 0 where
  pub outcome : (cs : List Chain) (s : State) → Open g src w sh cs at s → is_used cs ≡ true
      → outcome_of g src at s number ≡ gives r (order_line s number x (operands_from g src p)).state
  pub none : r ≡ 0 → (cs : List Chain) (s : State) → Open g src w sh cs at s → (order_line s number x (operands_from g src p)).refusal ≡ 0
  pub tokens : r ≡ 0 → tokens_refusal (operands_from g src p) ≡ 0
  pub low : (r ≡ 0 → ⊥) → 2 ≤ r
  pub high : (r ≡ 0 → ⊥) → r ≤ 7
