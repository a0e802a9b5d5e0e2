-- Blanks: they are text; what was read past them, and that a comment may open after it.
use Rattle.std.specs.Prelude.{ℕ}
use mathlib.Core.Path.{◌≡◌, refl, sym, ap, ◌∙◌}
use mathlib.Core.Bool.{Bool, true, false, false≢true}
use mathlib.Core.List.{List, [], ◌∷◌, ◌++◌}
use Prim.Native.Nat.{ℕ, ◌≤◌, ◌<◌}
use native.Mathlib.Omega.{arith}
use lib.ListN.{length, length-append}
use lib.Dec.{eqb}
use borrow.Author.Tests.{eq-eqb, eqb-true}
use Rattle.base_lists.proofs.Bools.{by, and_intro}
use Rattle.rules.specs.Text.{every}
use Rattle.rules.specs.Names.{is_blank}
use Rattle.rules.specs.Lines.{in_plain}
use Rattle.rules.specs.Tokens.{is_text, without_blanks}
use Rattle.text_lines.specs.declared.Signs.{Signs}
use Rattle.text_lines.specs.declared.Spot.{Spot}
use Rattle.text_lines.specs.Stream.{marks_left, blank_first, fresh_through}
use Rattle.text_lines.proofs.LineLaws.{run-marks}
use Rattle.text_tokens.specs.Left.{PlainAt, Skips}
use Rattle.text_tokens.proofs.AheadLaws.{ahead-solid, ahead-space}

-- ## Whether a blank comes next

-- the next byte tells it
module _ (g : Signs) (src : List ℕ) (p : Spot) (o : p.mode ≡ in_plain) {b : ℕ} (v : PlainAt g src p.at b) where
  pub blank-solid : 32 < b → false ≡ blank_first (marks_left g src p)
  blank-solid l = let m = ahead-solid g src p o v l in rw m.marks m.step.fresh

  pub blank-ahead : b ≡ 32 → eqb b 32 ≡ blank_first (marks_left g src p)
  blank-ahead e = let t : true ≡ blank_first (marks_left g src p) = rw (ahead-space g src p o v e).marks in eq-eqb b 32 e ∙ t

-- ## Marks that hold only blanks

blank-text : (b : ℕ) → is_blank b ≡ true → is_text b ≡ true
blank-text b h = by (eqb b 32) (λ t. rw (eqb-true b 32 t)) (λ t. rw (eqb-true b 9 (rw t at h)))

pub blanks-text : (ms : List ℕ) → without_blanks ms ≡ [] → every is_text ms ≡ true
unfolding without_blanks every
blanks-text [] e = refl
blanks-text (m ∷ ms) e =
    by (is_blank m) (λ t. and_intro (blank-text m t) (blanks-text ms (rw t at e))) (λ t. let z : m ∷ ms ≡ [] = rw t at e in let k = ap length z in absurd (omega arith))

-- ## Past blanks

-- marks that end where the blanks end are blanks
fresh-after : (f : Bool) (ps ms : List ℕ) → without_blanks (ps ++ ms) ≡ ms → f ≡ true → fresh_through f ps ≡ true
unfolding without_blanks
fresh-after f [] ms e h = h
fresh-after f (p ∷ ps) ms e h =
    by (is_blank p)
    (λ b. fresh-after (is_blank p) ps ms (rw b at e) b)
    (λ b. let k : p ∷ (ps ++ ms) ≡ ms = rw b at e in
    let l = ap (λ (x : List ℕ). length x) k in
    absurd (let n = length-append ps ms in omega arith))

shorter : (ms : List ℕ) → length (without_blanks ms) ≤ length ms
unfolding without_blanks
shorter [] = omega arith
shorter (m ∷ ms) = by (is_blank m) (λ t. rw t (let l = shorter ms in omega arith)) (λ t. rw t (omega arith))

-- one was read, so a comment may open
fresh-past : (f : Bool) (ps ms : List ℕ) → without_blanks (ps ++ ms) ≡ ms → blank_first (ps ++ ms) ≡ true → fresh_through f ps ≡ true
unfolding without_blanks
fresh-past f [] [] e b = absurd (false≢true b)
fresh-past f [] (m ∷ ms) e b =
    let k : without_blanks ms ≡ m ∷ ms = rw b at e in
    absurd (let l = shorter ms in let n = ap (λ (x : List ℕ). length x) k in omega arith)
fresh-past f (p ∷ ps) ms e b = fresh-after (is_blank p) ps ms (rw b at e) b

module _ {g : Signs} {src : List ℕ} {p q : Spot} (v : Skips g src p q) where
  passed : without_blanks (v.walk.passed ++ marks_left g src q) ≡ marks_left g src q
  passed = sym (ap without_blanks (run-marks g src p v.walk.run)) ∙ sym v.marks

  pub skips-fresh : p.fresh ≡ true → q.fresh ≡ true
  skips-fresh h = v.walk.run.fresh ∙ fresh-after p.fresh v.walk.passed (marks_left g src q) passed h

  pub skips-past : blank_first (marks_left g src p) ≡ true → q.fresh ≡ true
  skips-past b =
      v.walk.run.fresh
      ∙ fresh-past p.fresh v.walk.passed (marks_left g src q) passed (sym (ap blank_first (run-marks g src p v.walk.run)) ∙ b)
