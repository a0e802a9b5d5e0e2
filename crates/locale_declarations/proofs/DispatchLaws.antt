-- For the reader that calls by the keyword: what the functions require follows from how the line opens and from what is held, and what they
-- give is the step.
use Rattle.std.specs.Prelude.{Result}
use mathlib.Core.Path.{◌≡◌, sym, ◌∙◌, subst}
use mathlib.Core.List.{List}
use Prim.Native.Nat.{ℕ, ◌<◌}
use Prim.Native.String.{String}
use native.Mathlib.Omega.{arith}
use lib.ListN.{length}
use Rattle.rules.specs.Text.{bytes}
use Rattle.text_lines.specs.declared.Signs.{Signs}
use Rattle.text_lines.specs.declared.Spot.{Spot}
use Rattle.text_lines.specs.declared.LineEnd.{LineEnd}
use Rattle.text_lines.specs.Stream.{marks_left}
use Rattle.text_tokens.specs.declared.Tok.{Tok}
use Rattle.text_tokens.specs.Left.{word_in}
use Rattle.locale_opening.specs.Begun as begun
use Rattle.work_subjects.specs.Keys.{key_at}
use Rattle.work_store.specs.Store.{Sound}
use Rattle.locale_sheet.specs.declared.Sheet.{Sheet}
use Rattle.locale_sheet.specs.declared.Step.{Step}
use Rattle.locale_sheet.specs.Sheets.{SomeOpen, StepIs}
use Rattle.locale_sheet.specs.Words.{WordLine}
use Rattle.locale_declarations.specs.Worded.{Opened, StillAt, Still, Writes}
use Rattle.base_units.specs.declared.Refusal.{Refusal}

-- ## What is required

module _ {g : Signs} {src : List ℕ} {at : ℕ} {q : Spot} {t : Tok} {e : LineEnd} (v : begun.WordLine g src at q t e) (inside : at < length src) where
  -- the line of a first word
  pub word_line : WordLine g src at t.next e (word_in (marks_left g src q))
  word_line =
      let k = v.kind in
      let w = v.first.token.word k in
      let l = v.first.token.long-word k in
      let f = v.first.from in
      record {
        whole = v.outcome;
        line = v.first.line;
        inside = inside;
        plain = v.first.token.plain;
        edge = v.first.token.edge (omega (arith, k));
        to = v.first.token.to;
        long = rw (← w) (omega (arith, l, f));
        reach = let a = sym v.first.end ∙ v.first.line.end in omega (arith, a);
        far = v.first.more;
      }

  pub word-opened : (key : String) → word_in (marks_left g src q) ≡ bytes key → Opened g src at t.next e key
  word-opened key h =
      record { first = subst (WordLine g src at t.next e) h word_line; end = sym v.first.end ∙ v.first.line.end }

pub open-sound : {g : Signs} {src w : List ℕ} {sh : Sheet} {at depth : ℕ} → SomeOpen g src w sh at depth → Sound (key_at g src) (length src) w
open-sound o = record { n = o.held.n; ds = o.held.known.ds; holds = o.held.known.holds }

-- ## What is given

module _ (g : Signs) (src w : List ℕ) (sh : Sheet) (at number depth : ℕ) {r : Result Step Refusal} where
  pub still-step : Still g src sh at r → StepIs g src w sh at number depth w r
  still-step h = (h.is depth).is w number

  pub still-at-step : StillAt g src sh at depth r → StepIs g src w sh at number depth w r
  still-at-step h = h.is w number

  pub writes-step : {w' : List ℕ} → Writes g src w sh at w' r → StepIs g src w sh at number depth w' r
  writes-step h = h.is number depth
