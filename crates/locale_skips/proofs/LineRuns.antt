-- One line of a run over a locale source, from the place where it begins: it is passed over, or refused, or none is left. For every reader
-- of lines in which no byte is taken as it stands.
use mathlib.Core.Path.{◌≡◌, sym, ap, ◌∙◌}
use mathlib.Core.Bool.{true, false}
use mathlib.Core.List.{List}
use Prim.Native.Nat.{ℕ, ◌+◌, ◌-◌, ◌*◌, ◌^◌, ◌≤◌, ◌<◌}
use native.Mathlib.Omega.{arith}
use lib.ListN.{length, drop, length-drop}
use borrow.Author.Tests.{leb-true, lt-leb}
use Rattle.rules.specs.Lines.{Scan, line_of}
use Rattle.rules.specs.State.{between_categories, before_order, State, in_phase, is_outside, in_collate, Outcome, gives}
use Rattle.rules.specs.Source.{Ended, ended, signs, line_outcome, lines_from}
use Rattle.rules.proofs.RunLaws.{line_at, outcome_at, run_at, run-refused, run_end}
use Rattle.text_lines.specs.declared.Signs.{Signs}
use Rattle.text_lines.specs.declared.LineEnd.{LineEnd}
use Rattle.text_lines.specs.Stream.{plain_signs, line_left, line_start, marks_left, end_of, LineIs}
use Rattle.text_lines.proofs.LineLaws.{line_of-left}
use Rattle.locale_skips.specs.Passing.{Refuses}

-- the two characters in force, inside a category
pub signs-plain : (g : Signs) (s : State) → s.chars.comment ≡ g.comment → s.chars.escape ≡ g.escape → is_outside s ≡ false → signs s ≡ plain_signs g
signs-plain g s c e o = rw (c, e, o)

-- in LC_COLLATE
pub collate-signs : (g : Signs) (s : State) → s.chars.comment ≡ g.comment → s.chars.escape ≡ g.escape → in_collate s ≡ true → signs s ≡ plain_signs g
collate-signs g s c e i =
    let h = leb-true before_order s.place.phase i in
    signs-plain g s c e (lt-leb s.place.phase between_categories (omega arith))

pub some_left : (src : List ℕ) (at : ℕ) → at < length src → 0 < length (drop at src)
some_left src at h = rw length-drop (omega arith)

module _ (g : Signs) (src : List ℕ) (at n : ℕ) (s : State) (plain : signs s ≡ plain_signs g) where
  -- the line that begins at a place
  pub line-there : line_at s (drop at src) ≡ line_left g src (line_start at)
  line-there = ap (λ x. line_of x (drop at src)) plain ∙ line_of-left g src at

  -- the outcome of the line that begins at a place, by the marks that code reads there
  pub outcome-there : outcome_at s n (drop at src) ≡ line_outcome s n (marks_left g src (line_start at))
  outcome-there = ap (λ (x : Scan). line_outcome s n x.marks) line-there

  -- the line leaves the state t
  pub run-passed : (t : State) (e : LineEnd) → at < length src → LineIs g src (line_start at) e
      → line_outcome s n (marks_left g src (line_start at)) ≡ gives 0 t
      → lines_from s n 0 (drop at src) ≡ lines_from t (n + e.feeds) 0 (drop e.next src)
  run-passed t e h l o =
      let q : outcome_at s n (drop at src) ≡ gives 0 t = outcome-there ∙ o in
      run_at s n at src (some_left src at h) (ap (λ (x : Outcome). x.refusal) q)
      ∙ ap (λ (x : Outcome). lines_from x.state (n + (line_at s (drop at src)).feeds) 0 (drop (at + (line_at s (drop at src)).size) src)) q
      ∙ ap (λ (x : Scan). lines_from t (n + x.feeds) 0 (drop (at + x.size) src)) line-there
      ∙ ap (λ (x : ℕ). lines_from t (n + x) 0 (drop (end_of g src (line_start at)) src)) l.feeds
      ∙ ap (λ (x : ℕ). lines_from t (n + e.feeds) 0 (drop x src)) l.end

  -- the line is refused
  pub run-refuses : (r : ℕ) → at < length src → (line_outcome s n (marks_left g src (line_start at))).refusal ≡ r → (r ≡ 0 → ⊥)
      → Refuses (lines_from s n 0 (drop at src)) r n
  run-refuses r h o z =
      let q : (outcome_at s n (drop at src)).refusal ≡ r = ap (λ (x : Outcome). x.refusal) outcome-there ∙ o in
      let e : lines_from s n 0 (drop at src) ≡ ended (outcome_at s n (drop at src)).refusal n s =
      run-refused s n (drop at src) (some_left src at h) (λ y. z (sym q ∙ y)) in
      record { refusal = ap (λ (x : Ended). x.refusal) e ∙ q; line = ap (λ (x : Ended). x.line) e }

-- no line is left, inside a category
pub run-unended : (src : List ℕ) (at n : ℕ) (s : State) → in_phase between_categories s ≡ false → length src ≤ at
    → Refuses (lines_from s n 0 (drop at src)) 3 n
run-unended src at n s p h =
    let e : lines_from s n 0 (drop at src) ≡ ended 3 n s = run_end s n at src h ∙ rw p in
    record { refusal = ap (λ (x : Ended). x.refusal) e; line = ap (λ (x : Ended). x.line) e }

-- what holds of the run from a later place
pub refuses-from : {a b : Ended} {r l : ℕ} → a ≡ b → Refuses b r l → Refuses a r l
refuses-from e f = record { refusal = ap (λ (x : Ended). x.refusal) e ∙ f.refusal; line = ap (λ (x : Ended). x.line) e ∙ f.line }

-- ## Places and numbers

module _ {g : Signs} {src : List ℕ} {at : ℕ} {e : LineEnd} (l : LineIs g src (line_start at) e) where
  -- the number of the next line is no more than its place and one
  pub number_fits : {n : ℕ} → n ≤ at + 1 → length src * 1 < 2 ^ 63 → n + e.feeds < 2 ^ 64
  number_fits h k = omega (arith, l.few, l.to)

  pub line-less : at < length src → length src - e.next < length src - at
  line-less h = omega (arith, l.on h, l.to)
