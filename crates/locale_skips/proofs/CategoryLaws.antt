-- The lines of another category: the END line of its name, and the turns of the loop to it.
use Rattle.std.specs.Prelude.{if◌then◌else◌, Err, Ok, Result}
use mathlib.Core.Path.{◌≡◌, refl, sym, subst, ◌∙◌}
use mathlib.Core.Bool.{Bool, true, false}
use mathlib.Core.List.{List}
use Prim.Native.Nat.{ℕ, ◌+◌, ◌≤◌, ◌<◌}
use native.Mathlib.Omega.{arith}
use lib.ListN.{length}
use borrow.Author.Tests.{eqb-true, ne_eqb, lt-leb}
use Rattle.base_lists.proofs.Bools.{cond-true}
use Rattle.rules.specs.Text.{is}
use Rattle.rules.specs.State.{between_categories, in_other_category, State, in_phase, to_phase, gives}
use Rattle.rules.specs.Conditionals.{is_unused}
use Rattle.rules.specs.Source.{signs, other_line, unused_line, whole_line, line_outcome}
use Rattle.text_lines.specs.declared.Signs.{Signs}
use Rattle.text_lines.specs.declared.LineEnd.{LineEnd}
use Rattle.text_lines.specs.Stream.{plain_signs, line_start, marks_left, LineIs}
use Rattle.locale_skips.specs.Words.{words_left, first_word}
use Rattle.locale_skips.specs.Passing.{InOther, Begins, is_end, InCategory, Reaches, AfterIs, CategoryStops, CategoryRefused, CategoryIs}
use Rattle.locale_skips.proofs.LineRuns.{signs-plain, run-passed, run-unended, refuses-from}
use Rattle.base_units.specs.declared.Refusal.{Refusal}

-- ## A line

module _ (g : Signs) (src name : List ℕ) (s : State) (u : InOther g name s) where
  phase : s.place.phase ≡ in_other_category
  phase = eqb-true s.place.phase in_other_category u.inside

  pub other-signs : signs s ≡ plain_signs g
  other-signs = let h = phase in signs-plain g s u.comment u.escape (lt-leb s.place.phase between_categories (omega arith))

  pub other-inside : in_phase between_categories s ≡ false
  other-inside = let h = phase in ne_eqb s.place.phase between_categories (λ e. omega arith)

  -- it looks only for its own END line
  other-line : (n at : ℕ)
      → line_outcome s n (marks_left g src (line_start at)) ≡ gives 0 (if is_end g src at name then to_phase s between_categories else s)
  unfolding line_outcome other_line is_end is
  other-line n at =
      let ws = words_left g src (line_start at) in
      let marks = marks_left g src (line_start at) in
      cond-true (other_line s ws) (if is_unused s then unused_line s n (first_word g src (line_start at)) marks else whole_line s n marks) u.inside
      ∙ rw u.category

  pub end_line : (n at : ℕ) → is_end g src at name ≡ true
      → line_outcome s n (marks_left g src (line_start at)) ≡ gives 0 (to_phase s between_categories)
  end_line n at t = other-line n at ∙ rw t

  pub kept_line : (n at : ℕ) → is_end g src at name ≡ false → line_outcome s n (marks_left g src (line_start at)) ≡ gives 0 s
  kept_line n at t = other-line n at ∙ rw t

-- ## Line after line

pub category-begins : (g : Signs) (src : List ℕ) (at number : ℕ) (name : List ℕ) → Begins src at number → InCategory g src at number name at number
category-begins g src at number name h = record { from = omega arith; to = h.inside; few = h.few; run = λ s u. refl }

module _ {g : Signs} {src : List ℕ} {at number : ℕ} {name : List ℕ} {i n : ℕ} (v : InCategory g src at number name i n) where
  -- the source ends, or the END line stands
  pub reaches-over : length src ≤ i → Reaches g src at number name i n
  reaches-over h = record { passed = v; stands = λ k. absurd (omega arith) }

  pub reaches_end : is_end g src i name ≡ true → Reaches g src at number name i n
  reaches_end t = record { passed = v; stands = λ k. t }

  pub category-end : length src ≤ i → CategoryRefused g src at number name 3 n
  category-end h =
      record {
        run = λ s u. refuses-from (v.run s u) (run-unended src i n s (other-inside g src name s u) h);
      }

  module _ (h : i < length src) {e : LineEnd} (l : LineIs g src (line_start i) e) {t : Bool} (k : t ≡ is_end g src i name) where
    pub category-stops : t ≡ true → CategoryStops g src at number name e.next (n + e.feeds)
    category-stops b =
        record {
          from = omega (arith, v.from, l.few);
          to = l.to;
          few = omega (arith, v.few, l.few);
          run = λ s u. v.run s u
              ∙ run-passed g src i n s (other-signs g src name s u) (to_phase s between_categories) e h l (end_line g src name s u n i (sym k ∙ b));
        }

    pub category-on : t ≡ false → InCategory g src at number name e.next (n + e.feeds)
    category-on b =
        record {
          from = omega (arith, v.from, l.few);
          to = l.to;
          few = omega (arith, v.few, l.few);
          run = λ s u. v.run s u
              ∙ run-passed g src i n s (other-signs g src name s u) s e h l (kept_line g src name s u n i (sym k ∙ b));
        }

-- what stands after the place that is reached is what the category leaves
pub category-after : {g : Signs} {src : List ℕ} {at number : ℕ} {name : List ℕ} {i n : ℕ} → Reaches g src at number name i n
    → (r : Result (ℕ × ℕ) (Refusal × ℕ)) → AfterIs g src i n r → CategoryIs g src at number name r
category-after {g} {src} {at} {number} {name} {i} {n} v (Ok (next, m)) a =
    subst (λ (x : ℕ). CategoryStops g src at number name x m) (sym a.place)
    (subst (λ (x : ℕ). CategoryStops g src at number name a.end.next x) (sym a.lines)
    (category-stops v.passed a.inside a.line {t = true} (sym (v.stands a.inside)) refl))
category-after {g} {src} {at} {number} {name} {i} {n} v (Err (r, l)) a =
    subst (λ (x : ℕ). CategoryRefused g src at number name x l) (sym a.three)
    (subst (λ (x : ℕ). CategoryRefused g src at number name 3 x) (sym a.line) (category-end v.passed a.outside))
