-- A name beside other bytes: the turns of the loop.
use Rattle.std.specs.Prelude.{None, Option, Some, ℕ}
use Rattle.std.specs.Option.{is_some}
use mathlib.Core.Path.{◌≡◌, refl, sym, ◌∙◌, subst}
use mathlib.Core.Bool.{Bool, false, not}
use mathlib.Core.List.{List, []}
use Prim.Native.Nat.{ℕ, ◌+◌, ◌-◌, ◌≤◌, ◌<◌}
use native.Mathlib.Numerals.{add-one}
use native.Mathlib.Omega.{arith}
use lib.ListN.{length, get_or, drop, drop_of_length-le}
use lib.Seq.{drop-cons}
use borrow.Author.Tests.{eq-eqb, ne_eqb, not-true, not-false}
use Rattle.rules.specs.Text.{same}
use Rattle.text_lines.specs.declared.Signs.{Signs}
use Rattle.text_lines.specs.declared.Spot.{Spot}
use Rattle.text_tokens.specs.declared.NameStep.{NameStep}
use Rattle.text_tokens.specs.declared.NameStep.TheVariants.{Byte, Close, Open}
use Rattle.text_tokens.specs.Left.{NameByte, NameCloses, NameOpen, NameStepIs}
use Rattle.text_names.specs.Named.{name_left, ByteIs}

-- ## The next byte

module _ (g : Signs) (src : List ℕ) (q : Spot) {s : NameStep} (w : NameStepIs g src q s) where
  pub step-byte : {b : ℕ} {r : Spot} → s ≡ Byte b r → NameByte g src q b r
  step-byte e = subst (NameStepIs g src q) e w

  pub step-close : {r : Spot} → s ≡ Close r → name_left g src q ≡ []
  step-close {r} e = let x : NameCloses g src q r = subst (NameStepIs g src q) e w in x.bytes

  pub step-open : s ≡ Open → name_left g src q ≡ []
  step-open e = let x : NameOpen g src q = subst (NameStepIs g src q) e w in x.bytes

  pub step_less : {b : ℕ} {r : Spot} → s ≡ Byte b r → length src - r.at < length src - q.at
  step_less e = let x = step-byte e in omega (arith, x.on, x.to)

-- ## Beside other bytes

-- The name and w agree before q and before place i.
pub record Beside (g : Signs) (src w : List ℕ) (p q : Spot) (i : ℕ) : Type 0 where
  pub rest : same (name_left g src p) w ≡ same (name_left g src q) (drop i w)
  pub to : q.at ≤ length src
  pub short : i ≤ length w

pub beside_none : (g : Signs) (src w : List ℕ) (p : Spot) → p.at ≤ length src → Beside g src w p p 0
beside_none g src w p h = record { rest = refl; to = h; short = omega arith }

module _ {g : Signs} {src w : List ℕ} {p q : Spot} {i : ℕ} {s : Option (ℕ × Spot)} (v : Beside g src w p q i) (x : ByteIs g src q s) where
  pub beside-short : s ≡ None → i < length w → false ≡ same (name_left g src p) w
  unfolding same
  beside-short e h = let y : name_left g src q ≡ [] = subst (ByteIs g src q) e x in sym (v.rest ∙ rw (y, drop-cons w i 0 h))

  module _ {b : ℕ} {r : Spot} (e : s ≡ Some (b, r)) (h : i < length w) where
    on : NameByte g src q b r
    on = subst (ByteIs g src q) e x

    pub beside-not : (b ≡ get_or w i 0 → ⊥) → false ≡ same (name_left g src p) w
    unfolding same
    beside-not n = sym (v.rest ∙ rw (on.bytes, drop-cons w i 0 h) (simp (ne_eqb b (get_or w i 0) n)))

    pub beside-more : b ≡ get_or w i 0 → Beside g src w p r (i + 1)
    unfolding same
    beside-more f =
        record {
          rest = v.rest ∙ rw (on.bytes, drop-cons w i 0 h) (simp (eq-eqb b (get_or w i 0) f, add-one));
          to = on.to;
          short = omega arith;
        }

-- where the bytes are used up, the name must be too
pub beside_end : {g : Signs} {src w : List ℕ} {p q : Spot} {i : ℕ} → Beside g src w p q i → length w ≤ i → (s : Option (ℕ × Spot)) → ByteIs g src q s → {t : Bool}
    → is_some s ≡ not t → t ≡ same (name_left g src p) w
unfolding same
beside_end {w = w} v h None x {t} e = not-false t (sym e) ∙ sym (v.rest ∙ rw (x, drop_of_length-le w h))
beside_end {w = w} v h (Some (b, r)) x {t} e = not-true t (sym e) ∙ sym (v.rest ∙ rw (x.bytes, drop_of_length-le w h))
