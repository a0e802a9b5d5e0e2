-- Reading a word byte by byte: the test of a mark, the turns of the loops to its end and beside another word.
use Rattle.std.specs.Prelude.{None, Option, Some, ℕ}
use Rattle.std.specs.Option.{is_some}
use mathlib.Core.Path.{◌≡◌, refl, sym, ap, ◌∙◌, subst}
use mathlib.Core.Bool.{Bool, true, false, not, or-false}
use mathlib.Core.List.{List, []}
use Prim.Native.Nat.{ℕ, ◌+◌, ◌-◌, ◌≤◌, ◌<◌}
use native.Mathlib.Numerals.{add-one}
use native.Mathlib.Omega.{arith}
use lib.ListN.{length, get_or, drop, drop_of_length-le}
use lib.Seq.{drop-cons}
use lib.Dec.{eqb}
use borrow.Author.Tests.{eq-eqb, ne_eqb, lt-leb, not-true, not-false}
use Rattle.rules.specs.Text.{same}
use Rattle.rules.specs.Lines.{in_plain, after}
use Rattle.rules.specs.Tokens.{in_word}
use Rattle.text_lines.specs.declared.Signs.{Signs}
use Rattle.text_lines.specs.declared.Spot.{Spot}
use Rattle.text_lines.specs.Stream.{marks_left, Walk, MarkIs}
use Rattle.text_lines.proofs.RunLaws.{walk-then, mark-walk}
use Rattle.text_tokens.specs.Left.{word_in, after_word, WordByte, WordStops, WordStepIs}
use Rattle.text_tokens.proofs.TokenLaws.{in-word}
use Rattle.base_lists.proofs.Bools.{by, clash}
use Rattle.rules.specs.Names.{is_blank}

-- ## The marks of a word

pub in-word-yes : (m : ℕ) → m < 256 → (m ≡ 32 → ⊥) → (m ≡ 9 → ⊥) → (m ≡ 59 → ⊥) → (m ≡ 44 → ⊥) → (m ≡ 60 → ⊥) → not (eqb m 34) ≡ in_word m
in-word-yes m h a b c d e =
    simp (lt-leb 256 m h, ne_eqb m 32 a, ne_eqb m 9 b, ne_eqb m 59 c, ne_eqb m 44 d, ne_eqb m 60 e, or-false)

-- it is no blank
pub unblank : (m : ℕ) → in_word m ≡ true → is_blank m ≡ false
unblank m h = by (is_blank m) (λ t. clash h (rw t)) (λ t. t)

-- nor is a byte behind an escape
pub wide-unblank : (m : ℕ) → 256 ≤ m → is_blank m ≡ false
wide-unblank m h = simp (ne_eqb m 32 (λ e. omega (arith, e, h)), ne_eqb m 9 (λ e. omega (arith, e, h)))

-- ## The next byte

module _ {g : Signs} {src : List ℕ} {p : Spot} where
  pub word_end : marks_left g src p ≡ [] → WordStops g src p
  unfolding word_in after_word
  word_end n = record { bytes = rw n; after = rw n }

  module _ {m : ℕ} {q : Spot} (mark : MarkIs g src p m q) where
    pub word-stops : {t : Bool} → t ≡ in_word m → t ≡ false → WordStops g src p
    unfolding word_in after_word
    word-stops f n = let k = sym f ∙ n in record { bytes = rw (mark.marks, k); after = rw (mark.marks, k) }

    pub word_on : {t : Bool} → t ≡ in_word m → t ≡ true → WordByte g src p m q
    unfolding word_in after_word after
    word_on f y =
        let k = sym f ∙ y in
        let w = in-word m k in
        record {
          bytes = rw (mark.marks, k);
          after = rw (mark.marks, k);
          mode = λ z. mark.step.mode ∙ rw (z, w.name, w.quote);
          edge = mark.step.fresh ∙ unblank m k;
          on = mark.on;
          walk = mark-walk mark;
          to = mark.to;
        }

-- ## To the end of a word

-- From p to q a word goes on.
pub record InWord (g : Signs) (src : List ℕ) (p q : Spot) : Type 0 where
  pub after : after_word (marks_left g src p) ≡ after_word (marks_left g src q)
  pub mode : q.mode ≡ in_plain
  pub edge : p.fresh ≡ false → q.fresh ≡ false
  pub long : length (word_in (marks_left g src p)) + p.at ≤ length (word_in (marks_left g src q)) + q.at
  pub walk : Walk g src p q
  pub from : p.at ≤ q.at
  pub to : q.at ≤ length src

module _ {g : Signs} {src : List ℕ} {p q : Spot} {s : Option (ℕ × Spot)} (v : InWord g src p q) (w : WordStepIs g src q s) where
  pub in-more : {b : ℕ} {r : Spot} → s ≡ Some (b, r) → InWord g src p r
  in-more {b} {r} e =
      let x : WordByte g src q b r = subst (WordStepIs g src q) e w in
      record { after = v.after ∙ x.after; mode = x.mode v.mode; edge = λ e. x.edge; long = (let l = ap length x.bytes in omega (arith, v.long, x.on, l)); walk = walk-then v.walk x.walk; from = omega (arith, v.from, x.on); to = x.to }

-- each byte of a word brings the end nearer
pub word-less : (g : Signs) (src : List ℕ) (q : Spot) {s : Option (ℕ × Spot)} {b : ℕ} {r : Spot} → WordStepIs g src q s → s ≡ Some (b, r)
    → length src - r.at < length src - q.at
word-less g src q {b = b} {r} w e = let x : WordByte g src q b r = subst (WordStepIs g src q) e w in omega (arith, x.on, x.to)

-- ## Beside another word

-- The words agree before q and before place i.
pub record Alike (g : Signs) (src w : List ℕ) (p q : Spot) (i : ℕ) : Type 0 where
  pub rest : same (word_in (marks_left g src p)) w ≡ same (word_in (marks_left g src q)) (drop i w)
  pub to : q.at ≤ length src
  pub short : i ≤ length w

pub alike-none : (g : Signs) (src w : List ℕ) (p : Spot) → p.at ≤ length src → Alike g src w p p 0
alike-none g src w p h = record { rest = refl; to = h; short = omega arith }

module _ {g : Signs} {src w : List ℕ} {p q : Spot} {i : ℕ} {s : Option (ℕ × Spot)} (v : Alike g src w p q i) (x : WordStepIs g src q s) where
  pub alike-short : s ≡ None → i < length w → false ≡ same (word_in (marks_left g src p)) w
  unfolding same
  alike-short e h = let y : WordStops g src q = subst (WordStepIs g src q) e x in sym (v.rest ∙ rw (y.bytes, drop-cons w i 0 h))

  module _ {b : ℕ} {r : Spot} (e : s ≡ Some (b, r)) where
    on : WordByte g src q b r
    on = subst (WordStepIs g src q) e x

    module _ (h : i < length w) where
      pub alike-not : (b ≡ get_or w i 0 → ⊥) → false ≡ same (word_in (marks_left g src p)) w
      unfolding same
      alike-not n = sym (v.rest ∙ rw (on.bytes, drop-cons w i 0 h) (simp (ne_eqb b (get_or w i 0) n)))

      pub alike-more : b ≡ get_or w i 0 → Alike g src w p r (i + 1)
      unfolding same
      alike-more f =
          record {
            rest = v.rest ∙ rw (on.bytes, drop-cons w i 0 h) (simp (eq-eqb b (get_or w i 0) f, add-one));
            to = on.to;
            short = omega arith;
          }

-- where the other word is used up, the first one must be too
pub alike_end : {g : Signs} {src w : List ℕ} {p q : Spot} {i : ℕ} → Alike g src w p q i → length w ≤ i → (s : Option (ℕ × Spot)) → WordStepIs g src q s → {t : Bool}
    → is_some s ≡ not t → t ≡ same (word_in (marks_left g src p)) w
unfolding same
alike_end {w = w} v h None x {t} e = not-false t (sym e) ∙ sym (v.rest ∙ rw (x.bytes, drop_of_length-le w h))
alike_end {w = w} v h (Some (b, r)) x {t} e = not-true t (sym e) ∙ sym (v.rest ∙ rw (x.bytes, drop_of_length-le w h))
