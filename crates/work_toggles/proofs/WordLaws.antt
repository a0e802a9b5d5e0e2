-- Words beside each other, and what a word is like as a toggle's: the turns of the loops.
use Rattle.std.specs.Prelude.{None, Option, Some, is_some, ℕ}
use mathlib.Core.Path.{◌≡◌, refl, sym, ◌∙◌, subst}
use mathlib.Core.Bool.{Bool, true, false, false≢true, not, ◌&&◌, ◌||◌, and-true}
use mathlib.Core.List.{List, []}
use Prim.Native.Nat.{ℕ, suc, ◌+◌, ◌-◌, ◌≤◌, ◌<◌}
use native.Mathlib.Omega.{arith}
use lib.ListN.{length}
use lib.Dec.{eqb, leb}
use borrow.Author.Tests.{eq-eqb, ne_eqb}
use Rattle.rules.specs.Text.{within, every, same}
use Rattle.rules.specs.Conditionals.{is_toggle_byte}
use Rattle.text_lines.specs.declared.Signs.{Signs}
use Rattle.text_lines.specs.declared.Spot.{Spot}
use Rattle.text_tokens.specs.Left.{WordByte, WordStops, WordStepIs}
use Rattle.work_toggles.specs.Kept.{word_left, ShapeIs}

-- ## The next byte

module _ (g : Signs) (src : List ℕ) (q : Spot) {s : Option (ℕ × Spot)} (w : WordStepIs g src q s) where
  pub step-byte : {b : ℕ} {r : Spot} → s ≡ Some (b, r) → WordByte g src q b r
  step-byte e = subst (WordStepIs g src q) e w

  pub step_end : s ≡ None → word_left g src q ≡ []
  step_end e = let x : WordStops g src q = subst (WordStepIs g src q) e w in x.bytes

  pub step_less : {b : ℕ} {r : Spot} → s ≡ Some (b, r) → length src - r.at < length src - q.at
  step_less e = let x = step-byte e in omega (arith, x.on, x.to)

pub ends-is : (g : Signs) (src : List ℕ) (q : Spot) (s : Option (ℕ × Spot)) → WordStepIs g src q s → (t : Bool) → is_some s ≡ not t → t ≡ same [] (word_left g src q)
unfolding same
ends-is g src q None w true e = sym (rw w.bytes)
ends-is g src q None w false e = absurd (false≢true e)
ends-is g src q (Some (b, r)) w true e = absurd (false≢true (sym e))
ends-is g src q (Some (b, r)) w false e = sym (rw w.bytes)

-- ## A word beside another

-- The words agree before i and before j.
pub record Agree (g : Signs) (src : List ℕ) (p q i j : Spot) : Type 0 where
  pub rest : same (word_left g src p) (word_left g src q) ≡ same (word_left g src i) (word_left g src j)
  pub first : i.at ≤ length src
  pub second : j.at ≤ length src

pub agree-none : (g : Signs) (src : List ℕ) (p q : Spot) → p.at ≤ length src → q.at ≤ length src → Agree g src p q p q
agree-none g src p q h k = record { rest = refl; first = h; second = k }

module _ {g : Signs} {src : List ℕ} {p q i j : Spot} (v : Agree g src p q i j) (s : Option (ℕ × Spot)) (w : WordStepIs g src i s) where
  pub agree-end : {t : Bool} → s ≡ None → t ≡ same [] (word_left g src j) → t ≡ same (word_left g src p) (word_left g src q)
  agree-end e f = f ∙ sym (v.rest ∙ rw (step_end g src i w e))

  module _ {a : ℕ} {k : Spot} (e : s ≡ Some (a, k)) (t : Option (ℕ × Spot)) (x : WordStepIs g src j t) where
    one : WordByte g src i a k
    one = step-byte g src i w e

    pub agree-longer : t ≡ None → false ≡ same (word_left g src p) (word_left g src q)
    unfolding same
    agree-longer f = sym (v.rest ∙ rw (one.bytes, step_end g src j x f))

    module _ {b : ℕ} {l : Spot} (f : t ≡ Some (b, l)) where
      two : WordByte g src j b l
      two = step-byte g src j x f

      pub agree-not : (a ≡ b → ⊥) → false ≡ same (word_left g src p) (word_left g src q)
      unfolding same
      agree-not n = sym (v.rest ∙ rw (one.bytes, two.bytes) (simp (ne_eqb a b n)))

      pub agree-more : a ≡ b → Agree g src p q k l
      unfolding same
      agree-more h = record { rest = v.rest ∙ rw (one.bytes, two.bytes) (simp (eq-eqb a b h)); first = one.to; second = two.to }

-- ## The bytes of a toggle's word

-- a test by `||`, from what its first side gave
pub or-then : {v t x : Bool} (y : Bool) → t ≡ x → t ≡ true → v ≡ t → v ≡ (x || y)
or-then y e h i = i ∙ h ∙ sym (rw (← e, h))

pub or-else : {v t u x y : Bool} → t ≡ x → t ≡ false → v ≡ u → u ≡ y → v ≡ (x || y)
or-else e h i f = i ∙ f ∙ sym (rw (← e, h))

-- ## To the end of the word

-- From p to q so many bytes of a word are read, and whether each may stand in a toggle's.
pub record InToggle (g : Signs) (src : List ℕ) (p q : Spot) (n : ℕ) (clean : Bool) : Type 0 where
  pub long : length (word_left g src p) ≡ n + length (word_left g src q)
  pub all : every is_toggle_byte (word_left g src p) ≡ (clean && every is_toggle_byte (word_left g src q))
  pub from : n + p.at ≤ q.at
  pub to : q.at ≤ length src

pub toggle-none : (g : Signs) (src : List ℕ) (p : Spot) → p.at ≤ length src → InToggle g src p p 0 true
toggle-none g src p h = record { long = omega arith; all = refl; from = omega arith; to = h }

module _ {g : Signs} {src : List ℕ} {p q : Spot} {n : ℕ} {clean : Bool} {s : Option (ℕ × Spot)} (v : InToggle g src p q n clean) (w : WordStepIs g src q s) where
  -- a byte more
  toggle-on : {b : ℕ} {r : Spot} {t : Bool} → s ≡ Some (b, r) → (clean && (is_toggle_byte b && every is_toggle_byte (word_left g src r))) ≡ (t && every is_toggle_byte (word_left g src r))
      → InToggle g src p r (n + 1) t
  unfolding every
  toggle-on {b} {r} e f =
      let x : WordByte g src q b r = step-byte g src q w e in
      let l : length (word_left g src q) ≡ suc (length (word_left g src r)) = rw x.bytes in
      record {
        long = omega (arith, v.long);
        all = v.all ∙ rw x.bytes f;
        from = omega (arith, v.from, x.on);
        to = x.to;
      }

  pub toggle-more : {b : ℕ} {r : Spot} {t : Bool} → s ≡ Some (b, r) → clean ≡ true → t ≡ is_toggle_byte b → InToggle g src p r (n + 1) t
  toggle-more {b} {r} {t} e f h = toggle-on e (rw (f, h))

  pub toggle-foul : {b : ℕ} {r : Spot} → s ≡ Some (b, r) → clean ≡ false → InToggle g src p r (n + 1) clean
  toggle-foul e f = toggle-on e (rw f)

  pub toggle-ends : s ≡ None → ShapeIs (word_left g src p) (record { clean = clean; short = leb n 32 })
  unfolding every
  toggle-ends e =
      let x = step_end g src q w e in
      let l : length (word_left g src p) ≡ n = v.long ∙ rw x (omega arith) in
      record { clean = v.all ∙ rw x (and-true clean); short = rw l }
