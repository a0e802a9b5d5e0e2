-- A line that opens with a keyword, in a used branch: its outcome, and what it is refused for.
use mathlib.Core.Path.{◌≡◌, sym, ap, ◌∙◌}
use mathlib.Core.Bool.{Bool, true, false}
use mathlib.Core.List.{List}
use Prim.Native.Nat.{ℕ}
use Prim.Native.String.{String}
use Rattle.rules.specs.Text.{bytes, ◌unless◌, lower}
use Rattle.rules.specs.Tokens.{operands, tokens_refusal}
use Rattle.rules.specs.State.{Chain, State, Outcome, gives}
use Rattle.rules.specs.Source.{collate_line}
use Rattle.text_lines.specs.declared.Signs.{Signs}
use Rattle.text_lines.specs.declared.Spot.{Spot}
use Rattle.text_lines.specs.declared.LineEnd.{LineEnd}
use Rattle.text_lines.specs.Stream.{marks_left, line_start}
use Rattle.text_tokens.specs.Left.{tokens_left}
use Rattle.text_tokens.proofs.RefusalLaws.{lower-none-left}
use Rattle.text_operands.proofs.LateLaws.{late-lower, late-tokens, two-first}
use Rattle.locale_opening.proofs.CollateLaws.{late-collate}
use Rattle.locale_sheet.specs.declared.Sheet.{Sheet}
use Rattle.locale_sheet.specs.Sheets.{Open, is_used, Moves, outcome_of, Every, RefusedIs}
use Rattle.locale_sheet.proofs.SheetLaws.{read_whole}
use Rattle.locale_declarations.specs.Worded.{Opened}

gives_both : (a b : ℕ) (x y : State) → a ≡ b → x ≡ y → gives a x ≡ gives b y
gives_both a b x y h k = rw (h, k)

module _ {g : Signs} {src : List ℕ} {at : ℕ} {p : Spot} {e : LineEnd} {key : String} (l : Opened g src at p e key) where
  -- its refusals, but for bytes that are no text
  abbrev pub fault_of : State → ℕ → ℕ
  fault_of s number = lower (tokens_refusal (operands (tokens_left g src p))) (collate_line s number (bytes key) (operands (tokens_left g src p))).refusal

  pub line-moves : Moves g src at e.next e.feeds
  line-moves = record {
    end = l.first.line.end;
    feeds = l.first.line.feeds;
    on = l.first.line.on l.first.inside;
    to = l.first.line.to;
    few = l.first.line.few;
  }

  module _ (w : List ℕ) (sh : Sheet) (number : ℕ) where
    module _ {cs : List Chain} {s : State} (o : Open g src w sh cs at s) (u : is_used cs ≡ true) where
      pub line-outcome : outcome_of g src at s number
          ≡ gives (lower (2 unless e.text) (fault_of s number)) (collate_line s number (bytes key) (operands (tokens_left g src p))).state
      line-outcome =
          read_whole g src w sh cs at s o u number (marks_left g src (line_start at)) ∙ l.first.whole s number o.inside

      -- it is accepted
      pub line-accepted : {after : State} → e.text ≡ true → fault_of s number ≡ 0 → (collate_line s number (bytes key) (operands (tokens_left g src p))).state ≡ after
          → outcome_of g src at s number ≡ gives 0 after
      line-accepted {after} t f a =
          line-outcome
          ∙ gives_both (lower (2 unless e.text) (fault_of s number)) 0 (collate_line s number (bytes key) (operands (tokens_left g src p))).state after
          (ap (λ (b : Bool). lower (2 unless b) (fault_of s number)) t ∙ lower-none-left (fault_of s number) ∙ f) a

    -- whatever is held, it is refused
    pub line_refused : (depth : ℕ) {f r : ℕ} → r ≡ lower (2 unless e.text) f
        → Every g src w sh at depth (λ (cs : List Chain) (s : State). fault_of s number ≡ f)
        → RefusedIs g src w sh at number depth r
    line_refused depth b h = record {
      refusal = λ cs s o d u. ap (λ (x : Outcome). x.refusal) (line-outcome o u) ∙ ap (lower (2 unless e.text)) (h cs s o d u) ∙ sym b;
    }

    -- bytes that are no text: whatever else the line is refused for
    pub line-foul : (depth : ℕ) → e.text ≡ false → RefusedIs g src w sh at number depth 2
    line-foul depth t = record {
      refusal = λ cs s o d u.
          ap (λ (x : Outcome). x.refusal) (line-outcome o u) ∙ ap (λ (b : Bool). lower (2 unless b) (fault_of s number)) t
          ∙ two-first (fault_of s number) (late-lower (tokens_refusal (operands (tokens_left g src p))) (collate_line s number (bytes key) (operands (tokens_left g src p))).refusal
          (late-tokens (operands (tokens_left g src p))) (late-collate s number (bytes key) (operands (tokens_left g src p))));
    }
