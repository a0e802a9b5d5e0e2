-- The word of a category: its bytes one by one, and the turns of the loops that count them and compare its beginning.
use Rattle.std.specs.Prelude.{None, Option, Some, ℕ}
use mathlib.Core.Path.{◌≡◌, refl, sym, ap, ◌∙◌, subst}
use mathlib.Core.Bool.{Bool, true, false, and-true, and-false}
use mathlib.Core.List.{List}
use Prim.Native.Nat.{ℕ, suc, ◌+◌, ◌≤◌, ◌<◌, ◌^◌}
use native.Mathlib.Numerals.{add-one}
use native.Mathlib.Omega.{arith}
use lib.ListN.{length, get_or, drop, drop_of_length-le}
use lib.Seq.{drop-cons}
use lib.Dec.{eqb, leb}
use borrow.Author.Tests.{eq-eqb, ne_eqb, le-leb, lt-leb}
use Rattle.base_lists.proofs.Bools.{by}
use Rattle.rules.specs.Text.{bytes, within, every, begins}
use Rattle.rules.specs.Source.{is_capital}
use Rattle.text_lines.specs.declared.Signs.{Signs}
use Rattle.text_lines.specs.declared.Spot.{Spot}
use Rattle.text_lines.specs.Stream.{marks_left}
use Rattle.text_tokens.specs.Left.{word_in, WordByte, WordStops, WordStepIs}
use Rattle.locale_outside.specs.Outside.{is_category, capitals_in}

-- ## Capitals and underscores

pub capital-low : (b : ℕ) → b < 65 → false ≡ is_capital b
capital-low b h = simp (lt-leb 65 b h, ne_eqb b 95 (λ e. omega arith))

pub capital-within : (b : ℕ) → 65 ≤ b → b ≤ 90 → true ≡ is_capital b
capital-within b h k = simp (le-leb 65 b h, le-leb b 90 k)

pub capital-high : (b : ℕ) → 90 < b → eqb b 95 ≡ is_capital b
capital-high b h = simp (le-leb 65 b (omega arith), lt-leb b 90 h)

-- ## How many bytes a word of them has

-- From p to q so many bytes of the word are capitals or underscores.
pub record InCapitals (g : Signs) (src : List ℕ) (p q : Spot) (n : ℕ) : Type 0 where
  pub bytes : length (word_in (marks_left g src p)) ≡ n + length (word_in (marks_left g src q))
  pub are : every is_capital (word_in (marks_left g src p)) ≡ every is_capital (word_in (marks_left g src q))
  pub few : n ≤ q.at
  pub to : q.at ≤ length src

pub capitals-none : (g : Signs) (src : List ℕ) (p : Spot) → p.at ≤ length src → InCapitals g src p p 0
capitals-none g src p h = record { bytes = omega arith; are = refl; few = omega arith; to = h }

module _ {g : Signs} {src : List ℕ} {p q : Spot} {n : ℕ} {s : Option (ℕ × Spot)} (v : InCapitals g src p q n) (w : WordStepIs g src q s) where
  pub capitals-fit : length src < 2 ^ 64 → {b : ℕ} {r : Spot} → s ≡ Some (b, r) → n + 1 < 2 ^ 64
  capitals-fit h {b} {r} e =
      let x : WordByte g src q b r = subst (WordStepIs g src q) e w in
      omega (arith, v.few, x.on, x.to)

  pub capitals-more : {b : ℕ} {r : Spot} {t : Bool} → s ≡ Some (b, r) → t ≡ is_capital b → t ≡ true → InCapitals g src p r (n + 1)
  unfolding every
  capitals-more {b} {r} e f y =
      let x : WordByte g src q b r = subst (WordStepIs g src q) e w in
      let l : length (word_in (marks_left g src q)) ≡ suc (length (word_in (marks_left g src r))) = ap length x.bytes in
      record {
        bytes = omega (arith, v.bytes, l);
        are = v.are ∙ rw (x.bytes, sym f ∙ y);
        few = omega (arith, v.few, x.on);
        to = x.to;
      }

  pub capitals-not : {b : ℕ} {r : Spot} {t : Bool} → s ≡ Some (b, r) → t ≡ is_capital b → t ≡ false → None ≡ capitals_in (word_in (marks_left g src p))
  unfolding capitals_in every
  capitals-not {b} {r} e f y =
      let x : WordByte g src q b r = subst (WordStepIs g src q) e w in
      let z : every is_capital (word_in (marks_left g src p)) ≡ false = v.are ∙ rw (x.bytes, sym f ∙ y) in
      rw z

  pub capitals-end : s ≡ None → Some n ≡ capitals_in (word_in (marks_left g src p))
  unfolding capitals_in every
  capitals-end e =
      let x : WordStops g src q = subst (WordStepIs g src q) e w in
      let z : every is_capital (word_in (marks_left g src p)) ≡ true = v.are ∙ rw x.bytes in
      let l : length (word_in (marks_left g src q)) ≡ 0 = ap length x.bytes in
      let k : n ≡ length (word_in (marks_left g src p)) = omega (arith, v.bytes, l) in
      rw z (ap Some k)

-- ## Beside the beginning of another word

-- The words agree before q and before place i.
pub record Begun (g : Signs) (src w : List ℕ) (p q : Spot) (i : ℕ) : Type 0 where
  pub rest : begins w (word_in (marks_left g src p)) ≡ begins (drop i w) (word_in (marks_left g src q))
  pub to : q.at ≤ length src
  pub short : i ≤ length w

pub begun-none : (g : Signs) (src w : List ℕ) (p : Spot) → p.at ≤ length src → Begun g src w p p 0
begun-none g src w p h = record { rest = refl; to = h; short = omega arith }

module _ {g : Signs} {src w : List ℕ} {p q : Spot} {i : ℕ} (v : Begun g src w p q i) where
  pub begun-whole : length w ≤ i → true ≡ begins w (word_in (marks_left g src p))
  unfolding begins
  begun-whole h = sym (v.rest ∙ rw (drop_of_length-le w h))

  module _ {s : Option (ℕ × Spot)} (x : WordStepIs g src q s) (h : i < length w) where
    pub begun-end : s ≡ None → false ≡ begins w (word_in (marks_left g src p))
    unfolding begins
    begun-end e =
        let y : WordStops g src q = subst (WordStepIs g src q) e x in
        sym (v.rest ∙ rw (y.bytes, drop-cons w i 0 h))

    module _ {b : ℕ} {r : Spot} (e : s ≡ Some (b, r)) where
      on : WordByte g src q b r
      on = subst (WordStepIs g src q) e x

      pub begun-not : (b ≡ get_or w i 0 → ⊥) → false ≡ begins w (word_in (marks_left g src p))
      unfolding begins
      begun-not n = sym (v.rest ∙ rw (on.bytes, drop-cons w i 0 h) (simp (ne_eqb (get_or w i 0) b (λ z. n (sym z)))))

      pub begun_more : b ≡ get_or w i 0 → Begun g src w p r (i + 1)
      unfolding begins
      begun_more f =
          record {
            rest = v.rest ∙ rw (on.bytes, drop-cons w i 0 h) (simp (eq-eqb (get_or w i 0) b (sym f), add-one));
            to = on.to;
            short = omega arith;
          }

-- ## A category's word

module _ (w : List ℕ) {t : Bool} (e : t ≡ begins (bytes "LC_") w) where
  pub category-other : t ≡ false → false ≡ is_category w
  unfolding is_category
  category-other h = rw (sym e ∙ h)

  module _ (h : t ≡ true) {k : Option ℕ} (c : k ≡ capitals_in w) where
    -- it has other bytes
    pub category-mixed : k ≡ None → false ≡ is_category w
    unfolding is_category capitals_in
    category-mixed l =
        by (every is_capital w)
        (λ x. let z : None ≡ Some (length w) = sym l ∙ c ∙ rw x in cc)
        (λ x. rw (sym e ∙ h, x) (sym (and-false (within 4 32 (length w)))))

    module _ {n : ℕ} (l : k ≡ Some n) where
      whole : (every is_capital w ≡ true) × (n ≡ length w)
      unfolding capitals_in
      whole =
          by (every is_capital w)
          (λ x. (x, let z : Some n ≡ Some (length w) = sym l ∙ c ∙ rw x in cc))
          (λ x. let z : Some n ≡ None = sym l ∙ c ∙ rw x in cc)

      pub category-long : 32 < n → false ≡ is_category w
      unfolding is_category
      category-long m = let s = whole.1 in rw (sym e ∙ h, whole.0) (simp (lt-leb (length w) 32 (omega arith), and-false))

      pub category-short : n < 4 → false ≡ is_category w
      unfolding is_category
      category-short m = let s = whole.1 in rw (sym e ∙ h, whole.0) (simp (lt-leb 4 (length w) (omega arith)))

      pub category-word : 4 ≤ n → n ≤ 32 → true ≡ is_category w
      unfolding is_category
      category-word m o = let s = whole.1 in rw (sym e ∙ h, whole.0) (simp (le-leb 4 (length w) (omega arith), le-leb (length w) 32 (omega arith)))
