-- Inside a name, a byte that stands is the next one of it, and `>` ends it: so it goes from place to place.
use mathlib.Core.Path.{◌≡◌, refl, sym, ◌∙◌}
use mathlib.Core.Bool.{Bool, true, false, not}
use mathlib.Core.List.{List, [], ◌∷◌}
use Prim.Native.Nat.{ℕ, ◌+◌, ◌-◌, ◌%◌, ◌≤◌, ◌<◌}
use native.Mathlib.Omega.{arith}
use lib.ListN.{length, get_or}
use lib.Dec.{eqb, leb, ltb}
use borrow.Author.Tests.{ne_eqb, eqb-true, eqb-false, not-true, leb-true, ltb-true}
use Rattle.base_lists.proofs.Bools.{by, and_left, and_right}
use Rattle.rules.specs.Names.{is_visible}
use Rattle.rules.specs.Lines.{after}
use Rattle.text_lines.specs.declared.Signs.{Signs}
use Rattle.text_lines.specs.declared.Spot.{Spot}
use Rattle.text_lines.specs.Stream.{marks_left}
use Rattle.text_lines.proofs.LineLaws.{spot}
use Rattle.text_lines.proofs.StandsLaws.{Stands, stands-item}
use Rattle.text_lines.proofs.ByteLaws.{after-name, after-inner}
use Rattle.text_tokens.specs.Left.{is_inside, name_in}
use Rattle.text_names.specs.Named.{name_left}
use Rattle.text_names.specs.Shape.{stands_in, stands_at}

-- what a test says
pub told : {t u : Bool} → t ≡ u → t ≡ true → u ≡ true
told e f = sym e ∙ f

-- a name is in quotes or not
inside : {X : Type 0} (mode : ℕ) → is_inside mode ≡ true → (mode ≡ 1 → X) → (mode ≡ 3 → X) → X
inside mode h f k = by (eqb mode 1) (λ t. f (eqb-true mode 1 t)) (λ t. k (eqb-true mode 3 (rw t at h)))

stays : (mode b : ℕ) → is_inside mode ≡ true → (b ≡ 62 → ⊥) → mode ≡ after mode b
stays mode b h n = inside mode h (λ e. e ∙ after-name e n) (λ e. e ∙ after-inner e n)

stands-visible : (e b : ℕ) → stands_in e b ≡ true → is_visible b ≡ true
stands-visible e b h = and_left (is_visible b) (not (eqb b e)) h

pub stands-low : (e b : ℕ) → stands_in e b ≡ true → 33 ≤ b
stands-low e b h = leb-true 33 b (and_left (leb 33 b) (leb b 126) (stands-visible e b h))

pub stands-high : (e b : ℕ) → stands_in e b ≡ true → b ≤ 126
stands-high e b h = leb-true b 126 (and_right (leb 33 b) (leb b 126) (stands-visible e b h))

pub stands-no-escape : (e b : ℕ) → stands_in e b ≡ true → b ≡ e → ⊥
stands-no-escape e b h = eqb-false b e (not-true (eqb b e) (and_right (is_visible b) (not (eqb b e)) h))

-- a place

module _ (e : ℕ) (src : List ℕ) (at : ℕ) (h : stands_at e src at ≡ true) where
  pub place-within : at < length src
  unfolding stands_at
  place-within = ltb-true at (length src) (and_left (ltb at (length src)) (stands_in e (get_or src at 0)) h)

  pub place_is : stands_in e (get_or src at 0) ≡ true
  unfolding stands_at
  place_is = and_right (ltb at (length src)) (stands_in e (get_or src at 0)) h

-- what a test of a place gives
module _ (e : ℕ) (src : List ℕ) (at : ℕ) {t : Bool} (s : t ≡ stands_at e src at) (y : t ≡ true) where
  pub test-within : at < length src
  test-within = place-within e src at (sym s ∙ y)

  pub test-less : length src - (at + 1) < length src - at
  test-less = let l = test-within in omega arith

module _ (g : Signs) (src : List ℕ) (p : Spot) (l : p.at < length src) (i : is_inside p.mode ≡ true) (s : stands_in g.escape (get_or src p.at 0) ≡ true) where
  -- the mark is the byte
  mark : (x : ℕ) → x ≡ after p.mode (get_or src p.at 0) → marks_left g src p ≡ get_or src p.at 0 ∷ marks_left g src (spot (p.at + 1) x false)
  mark x a =
      let b = get_or src p.at 0 in
      let v = stands-low g.escape b s in
      let w = stands-high g.escape b s in
      let here : Stands g src p b = record {
        inside = l;
        is = refl;
        small = omega arith;
        no-feed = λ e. omega arith;
        no-escape = stands-no-escape g.escape b s;
        seen = λ e. inside p.mode i (λ f. omega arith) (λ f. omega arith);
        no-comment = inside p.mode i (λ e. rw e) (λ e. rw e);
      } in
      (stands-item {fresh = false} here a (sym (rw (ne_eqb b 32 (λ e. omega arith), ne_eqb b 9 (λ e. omega arith))))).0.marks

  -- a byte of the name
  pub byte_inside : (get_or src p.at 0 ≡ 62 → ⊥) → name_left g src p ≡ get_or src p.at 0 ∷ name_left g src (spot (p.at + 1) p.mode false)
  unfolding name_in
  byte_inside n =
      let b = get_or src p.at 0 in
      let w = stands-high g.escape b s in
      let m : b % 256 ≡ b = omega arith in
      rw (mark p.mode (stays p.mode b i n)) (simp (ne_eqb b 62 n, m))

  -- the end of the name
  pub close-inside : get_or src p.at 0 ≡ 62 → name_left g src p ≡ []
  unfolding name_in
  close-inside e = rw (mark (after p.mode (get_or src p.at 0)) refl, e)
